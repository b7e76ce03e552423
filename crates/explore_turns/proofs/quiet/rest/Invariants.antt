-- memory stays, and the way to the rest goes on from this hart
use Rattle.std.proofs.Common.{◌≡◌}
use Rattle.explore_sights.specs.Sights.{hides}
use Rattle.explore_turns.proofs.RestLemmas.{IsOnWay}
use Rattle.explore_turns.proofs.quiet.rest.Given as goal

abbrev pub invariant-loop : goal.invariant-loop
invariant-loop l = record {
  same_ram : l.ram ≡ l.initial.ram;
  on_way : IsOnWay l.program l.sweeps (hides l.sight) 1000 l.counter l.initial.hart l.at;
}
