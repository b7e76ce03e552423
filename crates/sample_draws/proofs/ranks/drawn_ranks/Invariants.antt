use Rattle.std.proofs.Common.{◌≡◌, ◌-◌, ◌<◌}
use Rattle.sample_draws.specs.Ranks.{first_ranks, shuffled}
use Rattle.sample_draws.proofs.ranks.drawn_ranks.Given as goal

-- the exchanges that are left lead to the same ranks
abbrev pub invariant-loop-place : goal.invariant-loop-place
invariant-loop-place l = record {
  below : l.place < 8;
  same : shuffled l.place l.ranks l.words ≡ shuffled (l.harts - 1) first_ranks l.fn.words;
}

abbrev pub decreases-loop-place : goal.decreases-loop-place
decreases-loop-place l = l.place
