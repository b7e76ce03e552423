-- Directives, of which `at` is the number of their name's token, or of the token after it.
use Rattle.std.specs.Prelude.{ℕ, ◌+◌, if◌then◌else◌, List, codes, bytes_eq, Option, Some, None}
use Rattle.std.specs.Prelude.{Result, Ok, Err}
use Rattle.asm_names.specs.declared.directives.Directive.{Directive}
use Rattle.asm_names.specs.declared.directives.Directive.TheVariants as names
use Rattle.asm_names.specs.Directives.{directive_of}
use Rattle.asm_tokens.specs.declared.fault.AsmFault.{AsmFault}
use Rattle.asm_tokens.specs.declared.fault.AsmFaultKind.TheVariants as faults
use Rattle.asm_tokens.specs.Tokens.{TokenParts}
use Rattle.asm_expressions.specs.Tokens.{text_at, fault_at}
use Rattle.asm_statements.specs.declared.statement.Body.{Body}
use Rattle.asm_statements.specs.declared.statement.Body.TheVariants as bodies
use Rattle.asm_statements.specs.declared.statement.Role.{Role}
use Rattle.asm_statements.specs.declared.statement.Role.TheVariants as roles
use Rattle.asm_statements.specs.Drafts.{Step, ◌>>=◌, add, done, look, with_body}
use Rattle.asm_statements.specs.Marks.{comma_at, name_at, end_at, is_name}
use Rattle.asm_statements.specs.Operands.{operand}
use Rattle.asm_statements.specs.Lists.{listed, one_more, padding}
use Rattle.asm_statements.specs.Sections.{section}

-- a name alone
unfoldable pub alone_body : List TokenParts → Body → ℕ → Step (Unit {0})
alone_body tokens body at = do
  _ ← look (end_at tokens at)
  add (with_body body)

-- operands with commas between them
unfoldable pub body_of : List TokenParts → Body → Role → ℕ → Step (Unit {0})
body_of tokens body role at = do
  _ ← add (with_body body)
  listed tokens role at

unfoldable pub padded : List TokenParts → Body → ℕ → Step (Unit {0})
padded tokens body at = do
  _ ← add (with_body body)
  padding tokens at

-- a number of bytes, and the byte
unfoldable pub zeros : List TokenParts → Body → ℕ → Step (Unit {0})
zeros tokens body at = do
  _ ← add (with_body body)
  next ← operand tokens roles.Early at
  one_more tokens next

-- what follows the name of an option isn't read
abbrev pub option_or_fault : List TokenParts → ℕ → Result (Unit {0}) AsmFault
option_or_fault tokens at =
    if bytes_eq (text_at tokens at) (codes "nocapmode") then Err (fault_at tokens faults.Profile at)
    else Ok tt

unfoldable pub options_at : List TokenParts → ℕ → Result (Unit {0}) AsmFault
options_at tokens at =
    if is_name tokens at then option_or_fault tokens at
    else Err (fault_at tokens faults.Operand at)

-- `.` can't be set
abbrev pub named_or_fault : List TokenParts → ℕ → Result ℕ AsmFault
named_or_fault tokens at =
    if bytes_eq (text_at tokens at) (codes ".") then Err (fault_at tokens faults.Profile at)
    else Ok (at + 1)

unfoldable pub new_name_at : List TokenParts → ℕ → Result ℕ AsmFault
new_name_at tokens at =
    if is_name tokens at then named_or_fault tokens at
    else Err (fault_at tokens faults.Operand at)

unfoldable pub set_value : List TokenParts → ℕ → Step (Unit {0})
set_value tokens at = do
  next ← operand tokens roles.Data at
  look (end_at tokens next)

unfoldable pub set : List TokenParts → ℕ → Step (Unit {0})
set tokens at = do
  comma ← look (new_name_at tokens at)
  _ ← add (with_body (bodies.Set at))
  next ← look (comma_at tokens comma)
  set_value tokens next

unfoldable pub size : List TokenParts → ℕ → Step (Unit {0})
size tokens at = do
  comma ← look (name_at tokens at)
  _ ← add (with_body (bodies.Size at))
  next ← look (comma_at tokens comma)
  set_value tokens next

unfoldable pub comm : List TokenParts → ℕ → Step (Unit {0})
comm tokens at = do
  comma ← look (name_at tokens at)
  _ ← add (with_body (bodies.Comm at))
  next ← look (comma_at tokens comma)
  end ← operand tokens roles.Early next
  one_more tokens end

-- each directive
unfoldable pub known_directive : List TokenParts → Directive → ℕ → Step (Unit {0})
known_directive tokens names.Plain at = alone_body tokens (bodies.PlainSection at) (at + 1)
known_directive tokens names.Section at = section tokens (at + 1)
known_directive tokens names.Previous at = alone_body tokens bodies.Previous (at + 1)
known_directive tokens names.Global at = body_of tokens bodies.Global roles.Name (at + 1)
known_directive tokens names.Local at = body_of tokens bodies.Nothing roles.Name (at + 1)
known_directive tokens names.Options at = look (options_at tokens (at + 1))
known_directive tokens names.Set at = set tokens (at + 1)
known_directive tokens names.Size at = size tokens (at + 1)
known_directive tokens names.Comm at = comm tokens (at + 1)
known_directive tokens names.Align at = padded tokens (bodies.Align at) (at + 1)
known_directive tokens names.Balign at = padded tokens (bodies.Balign at) (at + 1)
known_directive tokens (names.Data width) at =
    body_of tokens (bodies.Data at width) roles.Data (at + 1)
known_directive tokens names.Chericap at = body_of tokens (bodies.Chericap at) roles.Data (at + 1)
known_directive tokens names.Zero at = zeros tokens (bodies.Zero at) (at + 1)
known_directive tokens names.Ascii at = body_of tokens (bodies.Ascii at) roles.String (at + 1)
known_directive tokens names.Asciz at = body_of tokens (bodies.Asciz at) roles.String (at + 1)
known_directive tokens names.Ignored at = done tt
known_directive tokens names.Outside at = add (with_body (bodies.OutsideDirective at))

abbrev pub by_directive : Option Directive → List TokenParts → ℕ → Step (Unit {0})
by_directive (Some directive) tokens at = known_directive tokens directive at
by_directive None tokens at = add (with_body (bodies.UnknownDirective at))

unfoldable pub directive : List TokenParts → ℕ → Step (Unit {0})
directive tokens at = by_directive (directive_of (text_at tokens at)) tokens at
