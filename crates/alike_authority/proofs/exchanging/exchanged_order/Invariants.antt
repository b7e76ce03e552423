-- the operations so far
use Rattle.std.proofs.Common.{◌≡◌, map, take}
use Rattle.hart_exchanges.specs.Exchanges.{exchanged_operation}
use Rattle.alike_authority.proofs.exchanging.exchanged_order.Given as goal

abbrev pub invariant-loop-op : goal.invariant-loop-op
invariant-loop-op l = l.after.items ≡ map (exchanged_operation l.one l.other) (take l.op-index l.order)
