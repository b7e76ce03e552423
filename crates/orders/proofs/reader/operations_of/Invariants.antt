-- the operations so far and those that are left are the whole order
use Rattle.std.proofs.Common.{◌≡◌, ◌++◌, length}
use Rattle.orders.proofs.reader.operations_of.Given as goal

abbrev pub invariant-loop-operation : goal.invariant-loop-operation
invariant-loop-operation l = l.operations.items ++ l.order ≡ l.fn.order

abbrev pub decreases-loop-operation : goal.decreases-loop-operation
decreases-loop-operation l = length l.order
