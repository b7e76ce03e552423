-- what is not looked at yet decides
use Rattle.std.proofs.Common.{◌≡◌, drop}
use Rattle.sample_slices.specs.Sweeps.{same_ranges}
use Rattle.sample_slices.proofs.drawn.are_same.Given as goal

abbrev pub invariant-loop-place : goal.invariant-loop-place
invariant-loop-place l = same_ranges (drop l.place l.ranges) (drop l.place l.others) ≡ same_ranges l.ranges l.others
