-- Names for `unfolding(..)` that open what their own line names.
use Rattle.std.specs.Prelude.{ℕ}
use Rattle.origins.specs.Table.{slot_of, place_at}

unfoldable pub table : ℕ
unfolding slot_of place_at
table = 0
