-- Names for `unfolding(..)` that open what their own line names.
use Rattle.std.specs.Prelude.{ℕ, List}
use Rattle.cheri_model.specs.declared.operation.Op.{Op}
use Rattle.hart_exchanges.specs.Exchanges.{exchanged, exchanged_operation, exchanged_order}

unfoldable pub exchanges : ℕ → ℕ → Op → Op
unfolding exchanged exchanged_operation
exchanges one other op = exchanged_operation one other op

unfoldable pub orders : ℕ → ℕ → List Op → List Op
unfolding exchanged_order
orders one other order = exchanged_order one other order
