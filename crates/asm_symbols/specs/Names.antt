-- Names and the numbers of what they name.
use Rattle.std.specs.Prelude.{ℕ, if◌then◌else◌, List, Option, Some, None, bytes_eq}
use Rattle.std.specs.HashMap.{get_by}
use Rattle.asm_symbols.specs.declared.names.Names.{Names}

abbrev pub no_names : List ℕ → Option ℕ
no_names name = None

-- the first of two numbers, if there is one
abbrev pub first_of : Option ℕ → Option ℕ → Option ℕ
first_of (Some number) later = Some number
first_of None later = later

-- one more name: one that is there keeps its number
unfoldable pub defined : (List ℕ → Option ℕ) → List ℕ → ℕ → List ℕ → Option ℕ
defined names name number query =
    first_of (names query) (if bytes_eq name query then Some number else None)

-- a name with another number
unfoldable pub replaced : (List ℕ → Option ℕ) → List ℕ → ℕ → List ℕ → Option ℕ
replaced names name number query = if bytes_eq name query then Some number else names query

-- what names in memory say of a name
unfoldable pub names_of : Names → List ℕ → Option ℕ
names_of names name = get_by (λ key. bytes_eq name key.now) names.numbers
