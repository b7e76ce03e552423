-- The text of the vectors.
use Rattle.std.specs.Prelude.{ℕ, ◌+◌, List, codes, decimal}
use Rattle.cheri_vectors.specs.declared.words.TheConstants.{BIT_ROWS, CORNER_ROWS}
use Rattle.cheri_vectors.specs.declared.ranges.TheConstants.{POWER_ROWS, CORNER_RANGE_ROWS}
use Rattle.cheri_vectors.specs.declared.addresses.TheConstants.{ADDRESS_ROWS}
use Rattle.cheri_vectors.specs.declared.values.TheConstants.{VALUE_ROWS}
use Rattle.cheri_vectors.specs.Texts.{rows_below, ◌+++◌}
use Rattle.cheri_vectors.specs.Words.{bit_row, corner_row}
use Rattle.cheri_vectors.specs.Ranges.{power_row, corner_range_row}
use Rattle.cheri_vectors.specs.Addresses.{address_row}
use Rattle.cheri_vectors.specs.Values.{value_row}

-- the fields of each kind
unfoldable pub field_names : List ℕ
field_names =
    codes "# word upper addr base top perms type flag reserved ie e capability\n"
    +++ codes "# range base len rounded-base rounded-top b t ie e exact crrl cram\n"
    +++ codes "# address upper addr new-addr kept\n"
    +++ codes "# value operation tag upper addr tag upper addr tag upper addr\n"

abbrev pub row_count : ℕ
row_count = BIT_ROWS + CORNER_ROWS + POWER_ROWS + CORNER_RANGE_ROWS + ADDRESS_ROWS + VALUE_ROWS

-- the version, the fields of each kind, and how many rows follow
unfoldable pub head : List ℕ
head =
    codes "cheri-caps vectors 1\n" +++ field_names
    +++ codes "rows " +++ decimal row_count +++ codes "\n"

-- all of them: words, ranges, addresses, values
unfoldable pub vectors : List ℕ
vectors =
    head +++ rows_below bit_row BIT_ROWS +++ rows_below corner_row CORNER_ROWS
    +++ rows_below power_row POWER_ROWS
    +++ rows_below corner_range_row CORNER_RANGE_ROWS +++ rows_below address_row ADDRESS_ROWS
    +++ rows_below value_row VALUE_ROWS +++ codes "end\n"
