-- the states so far, and the first of them that passes
use Rattle.std.proofs.Common.{◌≡◌, ◌<◌, ◌≤◌, ◌-◌}
use Rattle.explore_sights.specs.Sights.{sight_of}
use Rattle.states.specs.Kept.{IsFirstPassing}
use Rattle.states.proofs.search.find_from.Given as goal

abbrev pub invariant-loop-kept : goal.invariant-loop-kept
invariant-loop-kept g l = record {
  image : l.kept.image ≡ l.search.image.now;
  sweeps : l.kept.sweeps ≡ l.search.sweeps.now;
  sight : l.kept.sight ≡ sight_of l.search.every_step l.sees;
  some : 0 < l.kept.limit;
  within : l.kept.limit ≤ l.limit;
  first : IsFirstPassing l.kept (g.T.StateTest.passing l.test) l.state;
}

abbrev pub decreases-loop-kept : goal.decreases-loop-kept
decreases-loop-kept g l = l.limit - l.kept.limit
