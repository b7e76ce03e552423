-- the ranges so far clear no tag
use Rattle.std.proofs.Common.{◌≡◌, take}
use Rattle.std.specs.Prelude.{true}
use Rattle.explore_turns.specs.QuietSteps.{is_whole}
use Rattle.explore_turns.proofs.quiet.is_whole.Given as goal

abbrev pub invariant-loop-range : goal.invariant-loop-range
invariant-loop-range l = is_whole (take l.range-index l.sweeps) l.hart ≡ true
