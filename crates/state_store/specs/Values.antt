-- A value as a row of five numbers: its tag, and its 128 bits from the lowest 32 on.
use Rattle.std.specs.Prelude.{◌≡◌, ℕ, ◌/◌, ◌%◌, ◌^◌, List, [], ◌∷◌, map, All}
use Rattle.cap_model.specs.values.CapValue.{CapValue, bits_of, tag_of, IsLawfulValue}
use Rattle.cap_model.specs.results.Readings.{number_of}
use Rattle.interner.specs.Rows.{Rows}
use Rattle.state_store.specs.Numbered.{IsDistinct}

unfoldable pub row_of : CapValue → List ℕ
row_of v =
    number_of (tag_of v)
    ∷ bits_of v % 2 ^ 32
    ∷ bits_of v / 2 ^ 32 % 2 ^ 32
    ∷ bits_of v / 2 ^ 64 % 2 ^ 32
    ∷ bits_of v / 2 ^ 96
    ∷ []

-- the values have these rows, and each is there once
pub record IsValues (table : Rows) (values : List CapValue) : Type 0 where
  pub width : table.width ≡ 5
  pub rows : table.rows ≡ map row_of values
  pub lawful : All IsLawfulValue values
  pub distinct : IsDistinct values
