-- What tokens are, by their numbers in the file, and what has to be where.
use Rattle.std.specs.Prelude.{ℕ, ◌+◌, Bool, true, false, ◌&&◌, if◌then◌else◌, List, map}
use Rattle.std.specs.Prelude.{Option, Some, None, Result, Ok, Err}
use Rattle.std.specs.Option.{is_some}
use Rattle.asm_names.specs.declared.registers.RegisterKind.{RegisterKind}
use Rattle.asm_names.specs.declared.registers.RegisterKind.TheVariants.{Integer, Capability}
use Rattle.asm_names.specs.declared.registers.RegisterName.{RegisterName}
use Rattle.asm_names.specs.declared.relocations.Relocation.{Relocation}
use Rattle.asm_names.specs.declared.relocations.Relocation.TheVariants as relocations
use Rattle.asm_names.specs.Registers.{register_named}
use Rattle.asm_names.specs.Relocations.{relocation_of}
use Rattle.asm_tokens.specs.declared.fault.AsmFault.{AsmFault}
use Rattle.asm_tokens.specs.declared.fault.AsmFaultKind.TheVariants as faults
use Rattle.asm_tokens.specs.declared.token.Mark.TheVariants as marks
use Rattle.asm_tokens.specs.declared.token.TokenKind.{TokenKind}
use Rattle.asm_tokens.specs.declared.token.TokenKind.TheVariants as kinds
use Rattle.asm_tokens.specs.Tokens.{TokenParts, token_parts}
use Rattle.asm_expressions.specs.Tokens.{kind_at, text_at, fault_at}
use Rattle.asm_statements.specs.declared.reader.Reader.{Reader}

abbrev pub source : Reader → List TokenParts
source reader = map token_parts reader.tokens.now

abbrev pub comma_kind : TokenKind → Bool
comma_kind (kinds.Mark marks.Comma) = true
comma_kind _ = false

unfoldable pub is_comma : List TokenParts → ℕ → Bool
is_comma tokens at = comma_kind (kind_at tokens at)

abbrev pub open_kind : TokenKind → Bool
open_kind (kinds.Mark marks.Open) = true
open_kind _ = false

unfoldable pub is_open : List TokenParts → ℕ → Bool
is_open tokens at = open_kind (kind_at tokens at)

abbrev pub close_kind : TokenKind → Bool
close_kind (kinds.Mark marks.Close) = true
close_kind _ = false

unfoldable pub is_close : List TokenParts → ℕ → Bool
is_close tokens at = close_kind (kind_at tokens at)

abbrev pub percent_kind : TokenKind → Bool
percent_kind (kinds.Mark marks.Percent) = true
percent_kind _ = false

unfoldable pub is_percent : List TokenParts → ℕ → Bool
is_percent tokens at = percent_kind (kind_at tokens at)

abbrev pub equals_kind : TokenKind → Bool
equals_kind (kinds.Mark marks.Equals) = true
equals_kind _ = false

unfoldable pub is_equals : List TokenParts → ℕ → Bool
is_equals tokens at = equals_kind (kind_at tokens at)

abbrev pub colon_kind : TokenKind → Bool
colon_kind (kinds.Mark marks.Colon) = true
colon_kind _ = false

unfoldable pub is_colon : List TokenParts → ℕ → Bool
is_colon tokens at = colon_kind (kind_at tokens at)

abbrev pub at_kind : TokenKind → Bool
at_kind (kinds.Mark marks.At) = true
at_kind _ = false

unfoldable pub is_at : List TokenParts → ℕ → Bool
is_at tokens at = at_kind (kind_at tokens at)

abbrev pub name_kind : TokenKind → Bool
name_kind kinds.Name = true
name_kind _ = false

unfoldable pub is_name : List TokenParts → ℕ → Bool
is_name tokens at = name_kind (kind_at tokens at)

abbrev pub string_kind : TokenKind → Bool
string_kind kinds.String = true
string_kind _ = false

unfoldable pub is_string : List TokenParts → ℕ → Bool
is_string tokens at = string_kind (kind_at tokens at)

abbrev pub number_kind : TokenKind → Bool
number_kind (kinds.Number n) = true
number_kind _ = false

unfoldable pub is_number : List TokenParts → ℕ → Bool
is_number tokens at = number_kind (kind_at tokens at)

abbrev pub end_kind : TokenKind → Bool
end_kind kinds.End = true
end_kind _ = false

unfoldable pub is_end : List TokenParts → ℕ → Bool
is_end tokens at = end_kind (kind_at tokens at)

-- a token that has to be there: the number of the next one, or a fault
abbrev pub wanted : Bool → List TokenParts → ℕ → Result ℕ AsmFault
wanted there tokens at = if there then Ok (at + 1) else Err (fault_at tokens faults.Operand at)

unfoldable pub comma_at : List TokenParts → ℕ → Result ℕ AsmFault
comma_at tokens at = wanted (is_comma tokens at) tokens at

unfoldable pub equals_at : List TokenParts → ℕ → Result ℕ AsmFault
equals_at tokens at = wanted (is_equals tokens at) tokens at

unfoldable pub open_at : List TokenParts → ℕ → Result ℕ AsmFault
open_at tokens at = wanted (is_open tokens at) tokens at

unfoldable pub close_at : List TokenParts → ℕ → Result ℕ AsmFault
close_at tokens at = wanted (is_close tokens at) tokens at

unfoldable pub name_at : List TokenParts → ℕ → Result ℕ AsmFault
name_at tokens at = wanted (is_name tokens at) tokens at

unfoldable pub string_at : List TokenParts → ℕ → Result ℕ AsmFault
string_at tokens at = wanted (is_string tokens at) tokens at

unfoldable pub end_at : List TokenParts → ℕ → Result (Unit {0}) AsmFault
end_at tokens at =
    if is_end tokens at then Ok tt else Err (fault_at tokens faults.Operand at)

-- a register's name, and one of the kind that is wanted: 3 where it is none, 5 where it is of the
-- other kind
unfoldable pub is_register : List TokenParts → ℕ → Bool
is_register tokens at = is_name tokens at && is_some (register_named (text_at tokens at))

abbrev pub is_kind : RegisterKind → RegisterKind → Bool
is_kind Integer Integer = true
is_kind Capability Capability = true
is_kind _ _ = false

abbrev pub register_or_fault : RegisterKind → Option RegisterName → List TokenParts → ℕ
    → Result ℕ AsmFault
register_or_fault kind (Some name) tokens at =
    if is_kind name.kind kind then Ok name.register else Err (fault_at tokens faults.Register at)
register_or_fault kind None tokens at = Err (fault_at tokens faults.Operand at)

unfoldable pub register_at : List TokenParts → RegisterKind → ℕ → Result ℕ AsmFault
register_at tokens kind at =
    if is_name tokens at then
    register_or_fault kind (register_named (text_at tokens at)) tokens at
    else Err (fault_at tokens faults.Operand at)

-- an operator of relocation, after its `%`
abbrev pub relocation_or_fault : Option Relocation → List TokenParts → ℕ
    → Result Relocation AsmFault
relocation_or_fault (Some relocations.Outside) tokens at =
    Err (fault_at tokens faults.Profile at)
relocation_or_fault (Some relocation) tokens at = Ok relocation
relocation_or_fault None tokens at = Err (fault_at tokens faults.Operand at)

unfoldable pub relocation_at : List TokenParts → ℕ → Result Relocation AsmFault
relocation_at tokens at =
    if is_name tokens at then relocation_or_fault (relocation_of (text_at tokens at)) tokens at
    else Err (fault_at tokens faults.Operand at)
