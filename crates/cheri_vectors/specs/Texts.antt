-- What rows are written with.
use Rattle.std.specs.Prelude.{ℕ, Bool, true, false, zero, suc, List, [], ◌++◌}
use Rattle.std.specs.Fmt.{digits}

-- a number in hexadecimal, with no leading zero
abbrev pub hex : ℕ → List ℕ
hex n = digits 16 false n

-- a truth value as a digit
abbrev pub bit_of : Bool → ℕ
bit_of true = 1
bit_of false = 0

-- one text and then another; it groups to the right
infixr 65 ◌+++◌
abbrev pub ◌+++◌ : List ℕ → List ℕ → List ℕ
first +++ second = first ++ second

-- the rows with the numbers from 0 to n - 1
unfoldable pub rows_below : (ℕ → List ℕ) → ℕ → List ℕ
rows_below row zero = []
rows_below row (suc n) = rows_below row n ++ row n
