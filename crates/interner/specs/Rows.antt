-- Rows of numbers, all as wide, one after another in a list.
use Rattle.std.specs.Prelude.{◌≡◌, ℕ, zero, suc, ◌*◌, List, [], ◌∷◌, ◌++◌, length, slice_get, Some}
use Rattle.std.specs.Prelude.{◌⊎◌}
use Rattle.std.proofs.Math.ListN.{take, drop}

-- The rows that were interned, in the order of their numbers.
pub record Rows : Type 0 where
  pub width : ℕ
  pub rows : List (List ℕ)

-- row i of the numbers
abbrev pub row_at : ℕ → List ℕ → ℕ → List ℕ
row_at width numbers i = take width (drop (i * width) numbers)

-- the first n rows of the numbers
unfoldable pub rows_of : ℕ → List ℕ → ℕ → List (List ℕ)
rows_of width numbers zero = []
rows_of width numbers (suc n) = rows_of width numbers n ++ row_at width numbers n ∷ []

-- the rows have this row under this number
abbrev pub IsRow : Rows → ℕ → List ℕ → Type 0
IsRow table number row = slice_get table.rows number ≡ Some row

-- the rows after one more
abbrev pub with_row : Rows → List ℕ → Rows
with_row table row = record table { rows = table.rows ++ row ∷ [] }

-- no two rows are the same
abbrev pub IsDistinct : Rows → Type 0
IsDistinct table = (i k : ℕ) (row : List ℕ) → IsRow table i row → IsRow table k row → i ≡ k

-- a row got its number: it was there, and nothing changed, or it is the new last one
abbrev pub IsInterned : Rows → Rows → List ℕ → ℕ → Type 0
IsInterned old new row number =
    IsRow new number row × ((new ≡ old) ⊎ ((new ≡ with_row old row) × (number ≡ length old.rows)))
