-- Labels.
use Rattle.std.specs.Prelude.{ℕ, zero, suc, ◌+◌, nat_lt, if◌then◌else◌, List, length, Result, Ok}
use Rattle.std.specs.Prelude.{Err}
use Rattle.std.specs.Option.{is_none}
use Rattle.asm_tokens.specs.declared.fault.AsmFault.{AsmFault}
use Rattle.asm_tokens.specs.declared.fault.AsmFaultKind.TheVariants.{Twice}
use Rattle.asm_tokens.specs.declared.token.TokenKind.{TokenKind}
use Rattle.asm_tokens.specs.declared.token.TokenKind.TheVariants.{Number}
use Rattle.asm_tokens.specs.Faults.{◌>>=◌}
use Rattle.asm_tokens.specs.Tokens.{TokenParts}
use Rattle.asm_expressions.specs.Tokens.{kind_at, text_at, fault_at}
use Rattle.asm_chunks.specs.Chunks.{here_of}
use Rattle.asm_symbols.specs.declared.locals.Local.{Local}
use Rattle.asm_symbols.specs.Definitions.{DefinitionParts, with_symbol, label_symbol}
use Rattle.asm_symbols.specs.Locals.{with_local}
use Rattle.asm_drafts.specs.Drafts.{DraftParts, with_symbols, with_locals}

-- a symbol defined, unless this file has its name
abbrev pub defined_at : List TokenParts → DraftParts → ℕ → DefinitionParts → Result DraftParts AsmFault
defined_at tokens parts at definition =
    if is_none (parts.symbols.own definition.name)
    then Ok (with_symbols parts (with_symbol parts.symbols definition))
    else Err (fault_at tokens Twice at)

-- the symbol that a token names, at the place where the file is
unfoldable pub named : List TokenParts → DraftParts → ℕ → Result DraftParts AsmFault
named tokens parts at =
    defined_at tokens parts at
    (label_symbol parts.symbols (text_at tokens at) at parts.chunks.here (here_of parts.chunks).size)

-- the local label of a token's digits there
abbrev pub local_here : DraftParts → ℕ → Local
local_here parts at =
    record { chunk = parts.chunks.here; offset = (here_of parts.chunks).size; token = at }

unfoldable pub locally_labelled : List TokenParts → DraftParts → ℕ → Result DraftParts AsmFault
locally_labelled tokens parts at =
    Ok (with_locals parts (with_local parts.locals (text_at tokens at) (local_here parts at)))

abbrev pub labelled_kind : List TokenParts → DraftParts → ℕ → TokenKind → Result DraftParts AsmFault
labelled_kind tokens parts at (Number n) = locally_labelled tokens parts at
labelled_kind tokens parts at _ = named tokens parts at

unfoldable pub labelled : List TokenParts → DraftParts → ℕ → Result DraftParts AsmFault
labelled tokens parts at = labelled_kind tokens parts at (kind_at tokens at)

-- so many labels, each with its colon
unfoldable pub labels_put : List TokenParts → ℕ → ℕ → DraftParts → Result DraftParts AsmFault
labels_put tokens at zero parts = Ok parts
labels_put tokens at (suc more) parts =
    if nat_lt at (length tokens)
    then (labelled tokens parts at >>= λ next. labels_put tokens (at + 2) more next)
    else Ok parts
