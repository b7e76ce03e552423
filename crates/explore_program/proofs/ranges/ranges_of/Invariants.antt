-- the ranges so far are those of the sweeps so far
use Rattle.std.proofs.Common.{◌≡◌, take, map}
use Rattle.explore_program.specs.Questions.{range_of}
use Rattle.explore_program.proofs.ranges.ranges_of.Given as goal

abbrev pub invariant-loop-sweep : goal.invariant-loop-sweep
invariant-loop-sweep l = l.ranges.items ≡ map range_of (take l.sweep-index l.sweeps)
