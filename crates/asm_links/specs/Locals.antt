-- The local labels that statements see.
use Rattle.std.specs.Prelude.{ℕ, zero, suc, ◌==◌, Bool, if◌then◌else◌, List, [], ◌∷◌, length, take}
use Rattle.std.specs.Prelude.{drop, slice_index, slice_get, bytes_eq, Option, Some, None}
use Rattle.asm_tokens.specs.Numbers.{without_zeros}
use Rattle.asm_tokens.specs.Tokens.{TokenParts}
use Rattle.asm_expressions.specs.Tokens.{text_at}
use Rattle.asm_symbols.specs.declared.locals.Local.{Local}
use Rattle.asm_files.specs.Programs.{ProgramParts, tokens_in, locals_in, stand_in}

-- whether a label has these digits; zeros before others say nothing
unfoldable pub has_digits : List TokenParts → List ℕ → Local → Bool
has_digits tokens digits local =
    bytes_eq (without_zeros digits) (without_zeros (text_at tokens local.token))

-- the label of a number, if it has these digits
abbrev pub if_digits : List TokenParts → List ℕ → Option Local → Option Local
if_digits tokens digits (Some local) = if has_digits tokens digits local then Some local else None
if_digits tokens digits None = None

unfoldable pub label_at : List TokenParts → List ℕ → List Local → ℕ → Option Local
label_at tokens digits locals at = if_digits tokens digits (slice_get locals at)

-- the last label of these digits of so many
abbrev pub or_others : Option Local → Option Local → Option Local
or_others (Some local) others = Some local
or_others None others = others

unfoldable pub last_before : List TokenParts → List ℕ → List Local → ℕ → Option Local
last_before tokens digits locals zero = None
last_before tokens digits locals (suc count) =
    or_others (label_at tokens digits locals count) (last_before tokens digits locals count)

-- the first label of these digits, and that behind so many
unfoldable pub first_in : List TokenParts → List ℕ → List Local → Option Local
first_in tokens digits [] = None
first_in tokens digits (local ∷ locals) =
    if has_digits tokens digits local then Some local else first_in tokens digits locals

unfoldable pub first_from : List TokenParts → List ℕ → List Local → ℕ → Option Local
first_from tokens digits locals count = first_in tokens digits (drop count locals)

-- `1b` is the last one at or before a statement, `1f` the first one after it
abbrev pub label_of : List TokenParts → List Local → ℕ → List ℕ → ℕ → Option Local
label_of tokens locals count digits b =
    if b == 0x62 then last_before tokens digits locals count
    else first_from tokens digits locals count

abbrev pub label_by : List TokenParts → List Local → ℕ → List ℕ → Option Local
label_by tokens locals count [] = None
label_by tokens locals count (b ∷ text) =
    label_of tokens locals count (take (length text) (b ∷ text))
    (slice_index (b ∷ text) (length text))

unfoldable pub local_label : ProgramParts → ℕ → ℕ → List ℕ → Option Local
local_label program file statement text =
    label_by (tokens_in program file) (locals_in program file)
    (stand_in program file statement).locals text
