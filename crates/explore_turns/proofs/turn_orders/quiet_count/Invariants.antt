-- memory stays, and the way to the rest goes on from this hart, after so many steps
use Rattle.std.proofs.Common.{◌≡◌}
use Rattle.explore_sights.specs.Sights.{hides}
use Rattle.explore_turns.proofs.RestLemmas.{IsOnWay, IsCounted}
use Rattle.explore_turns.proofs.turn_orders.quiet_count.Given as goal

abbrev pub invariant-loop-count : goal.invariant-loop-count
invariant-loop-count l = record {
  same_ram : l.ram ≡ l.initial.ram;
  on_way : IsOnWay l.program l.sweeps (hides l.sight) 1000 l.count l.initial.hart l.at;
  counted : IsCounted l.program l.sweeps (hides l.sight) 1000 l.count l.initial.hart l.at;
}
