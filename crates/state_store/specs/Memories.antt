-- Writes that were looked up before, and what each leaves.
use Rattle.std.specs.Prelude.{◌≡◌, ℕ, List, [], ◌∷◌, length, slice_get, slice_set, Some}
use Rattle.interner.specs.Rows.{Rows}

-- the row with number `after` is the one with number `before`, with another value at this place
pub record IsWrite (rows : List (List ℕ)) (before place value after : ℕ) : Type 0 where
  pub row : List ℕ
  pub from : slice_get rows before ≡ Some row
  pub leaves : slice_get rows after ≡ Some (slice_set row place value)

-- What is kept beside rows: writes to them, each by the row, the place and the value, and for each
-- the number of the row that it leaves.
pub record AreWrites (rows : List (List ℕ)) (writes : Rows) (after : List ℕ) : Type 0 where
  pub width : writes.width ≡ 3
  pub as_many : length after ≡ length writes.rows
  pub are : (k before place value left : ℕ) →
      slice_get writes.rows k ≡ Some (before ∷ place ∷ value ∷ []) →
      slice_get after k ≡ Some left → IsWrite rows before place value left
