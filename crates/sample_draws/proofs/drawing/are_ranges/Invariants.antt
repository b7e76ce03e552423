use Rattle.std.proofs.Common.{◌≡◌, drop}
use Rattle.sample_draws.specs.Drawings.{are_ranges}
use Rattle.sample_draws.proofs.drawing.are_ranges.Given as goal

-- what is not looked at yet decides
abbrev pub invariant-loop-range : goal.invariant-loop-range
invariant-loop-range l = are_ranges (drop l.range-index l.ranges) ≡ are_ranges l.ranges
