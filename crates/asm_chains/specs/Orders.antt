-- How much is left to look through.
use Rattle.std.specs.Prelude.{ℕ, ◌+◌, ◌*◌, Bool, true, false, length, sum_by}
use Rattle.asm_chains.specs.declared.order.Order.{Order}

abbrev pub unmet : Bool → ℕ
unmet true = 0
unmet false = 1

-- two steps for each symbol that wasn't met, and one for each on the way
unfoldable pub work_of : Order → ℕ
work_of order = 2 * sum_by unmet order.met.items + length order.way.items
