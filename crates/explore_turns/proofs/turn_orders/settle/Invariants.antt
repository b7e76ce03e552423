-- memory stays, the harts so far rest, and what is left to append are the quiet steps of the others
use Rattle.std.proofs.Common.{◌≡◌, ◌++◌, map, take, drop}
use Rattle.explore_turns.specs.Orders.{quiet_order}
use Rattle.explore_turns.specs.Turns.{resting}
use Rattle.explore_turns.proofs.turn_orders.settle.Given as goal

abbrev pub invariant-loop-number : goal.invariant-loop-number
invariant-loop-number l = record {
  same_ram : l.ram ≡ l.initial.ram;
  harts : l.harts ≡ map (resting l.image l.sweeps l.sight) (take l.number l.initial.harts) ++ drop l.number l.initial.harts;
  order : l.order.items ++ quiet_order l.image l.sweeps l.sight l.number (drop l.number l.initial.harts)
      ≡ l.initial.order.items ++ quiet_order l.image l.sweeps l.sight 0 l.initial.harts;
}
