-- How rows are kept: each in a word, where the numbers behind its first one have so many bits; or number by
-- number.
use Rattle.std.specs.Prelude.{◌≡◌, ⊤, ℕ, ◌-◌, ◌*◌, ◌<◌, ◌≤◌, List, [], ◌∷◌, map, length, slice_get, slice_index, Option, Some, None, option_map}
use Rattle.interner.specs.Rows.{Rows}
use Rattle.graph_nodes.specs.Packing.{packed, unpacked}

-- a word, as it is kept: a row of one number
abbrev pub kept_word : ℕ → List ℕ
kept_word word = word ∷ []

-- what is kept of a row, if it fits
abbrev pub kept_of : Option ℕ → List ℕ → Option (List ℕ)
kept_of None row = Some row
kept_of (Some bits) row = option_map kept_word (packed bits row)

-- the row, of so many numbers, of which this is kept
abbrev pub row_of : Option ℕ → ℕ → List ℕ → List ℕ
row_of None width kept = kept
row_of (Some bits) width kept = unpacked bits (width - 1) (slice_index kept 0)

-- how many numbers are kept of a row
abbrev pub kept_width : Option ℕ → ℕ → ℕ
kept_width None width = width
kept_width (Some bits) width = 1

-- words have room for rows of so many numbers
abbrev pub HasBits : Option ℕ → ℕ → Type 0
HasBits None width = ⊤
HasBits (Some bits) width = (0 < width) × (0 < bits) × (bits ≤ 32) × ((width - 1) * bits ≤ 64)

-- what is kept, of these words and these rows
abbrev pub kept_in : Option ℕ → Rows → Rows → Rows
kept_in None words rows = rows
kept_in (Some bits) words rows = words

-- the rows
abbrev pub rows_of : Option ℕ → ℕ → Rows → Rows
rows_of bits width kept = record { width = width; rows = map (row_of bits width) kept.rows }

-- Rows are kept in this form: each as wide, and just what is kept of it.
pub record AreKept (bits : Option ℕ) (width : ℕ) (kept : Rows) : Type 0 where
  pub fit : HasBits bits width
  pub wide : kept.width ≡ kept_width bits width
  pub same : (i : ℕ) (k : List ℕ) → slice_get kept.rows i ≡ Some k → kept_of bits (row_of bits width k) ≡ Some k
  pub long : (i : ℕ) (k : List ℕ) → slice_get kept.rows i ≡ Some k → length (row_of bits width k) ≡ width
