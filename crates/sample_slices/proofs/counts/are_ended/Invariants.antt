-- what is left, and the ends that are left
use Rattle.std.proofs.Common.{◌≡◌, ◌==◌, drop}
use Rattle.std.specs.Prelude.{sum_by}
use Rattle.sample_tallies.specs.Sums.{ends_in_order}
use Rattle.sample_slices.specs.Claimed.{ended, runs_in_end}
use Rattle.sample_slices.proofs.counts.are_ended.Given as goal

abbrev pub invariant-loop-number : goal.invariant-loop-number
invariant-loop-number l =
    (sum_by runs_in_end (drop l.number-index (ends_in_order l.tally.sum)) == l.left)
    ≡ (ended l.tally.sum == l.runs)
