-- what is not looked at yet decides
use Rattle.std.proofs.Common.{◌≡◌, drop}
use Rattle.sample_slices.specs.Sweeps.{is_among}
use Rattle.sample_slices.proofs.sweeps.is_among.Given as goal

abbrev pub invariant-loop-other : goal.invariant-loop-other
invariant-loop-other l = is_among (drop l.other-index l.ranges) l.range ≡ is_among l.ranges l.range
