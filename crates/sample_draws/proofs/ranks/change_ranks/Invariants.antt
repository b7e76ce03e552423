use Rattle.std.proofs.Common.{◌≡◌, ◌+◌, drop}
use Rattle.sample_draws.specs.Ranks.{changed_ranks}
use Rattle.sample_draws.proofs.ranks.change_ranks.Given as goal

-- the change points that are left lead to the same ranks
abbrev pub invariant-loop-place : goal.invariant-loop-place
invariant-loop-place l = record {
  number : l.number ≡ l.harts + l.place-index;
  same : changed_ranks l.steps l.harts l.waiting l.running l.place-index
      (drop l.place-index l.changes) l.ranks
      ≡ changed_ranks l.steps l.harts l.waiting l.running 0 l.changes l.fn.ranks;
}
