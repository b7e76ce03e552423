-- the shares so far have counted the entries of their harts
use Rattle.std.proofs.Common.{◌≡◌, ℕ, ◌<◌}
use Rattle.std.specs.Prelude.{slice_index_or}
use Rattle.cheri_model.specs.runs.Replay.{step_count}
use Rattle.shared_machine.specs.Shares.{ShareParts}
use Rattle.shared_machine.proofs.machines.Machine.audited.Given as goal

abbrev pub invariant-loop-place : goal.invariant-loop-place
invariant-loop-place g l = record {
  books : l.books ≡ l.initial.books;
  shares : l.shares.items ≡ l.initial.shares.items;
  counts : (k : ℕ) (d : ShareParts) → k < l.place →
      (slice_index_or l.shares.items k d).amount ≡ step_count l.watched.core.trace (slice_index_or l.shares.items k d).hart;
}
