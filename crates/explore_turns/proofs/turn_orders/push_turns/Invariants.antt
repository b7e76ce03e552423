-- what is left to append are the turns of the other operations, from the state that was reached
use Rattle.std.proofs.Common.{◌≡◌, ◌++◌, length, drop}
use Rattle.explore_turns.specs.Orders.{turns_from}
use Rattle.explore_turns.proofs.turn_orders.push_turns.Given as goal

abbrev pub invariant-loop-op : goal.invariant-loop-op
invariant-loop-op l = record {
  fits : length l.machine.harts.items ≡ length l.image.harts;
  order : l.order.items ++ turns_from l.image l.sweeps l.sight
      (record { harts = l.machine.harts.items; memory = l.machine.ram }) (drop l.op-index l.ops)
      ≡ l.initial.order.items ++ turns_from l.image l.sweeps l.sight
      (record { harts = l.initial.machine.harts.items; memory = l.initial.machine.ram }) l.ops;
}
