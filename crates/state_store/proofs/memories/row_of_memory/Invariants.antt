-- the numbers so far are those of the granules so far
use Rattle.std.proofs.Common.{◌≡◌, ◌≤◌, ◌<◌, ℕ, length}
use Rattle.std.specs.Prelude.{Some, slice_get, slice_index_or}
use Rattle.cheri_model.specs.steps.Memory.{granule_at}
use Rattle.state_store.specs.Numbered.{Extends}
use Rattle.state_store.proofs.memories.row_of_memory.Given as goal

abbrev pub invariant-loop-number : goal.invariant-loop-number
invariant-loop-number l = record {
  kept : Extends l.fn.values l.values;
  within : l.number ≤ length l.ram;
  count : length l.row.items ≡ l.number;
  granules : (k : ℕ) → k < l.number →
      slice_get l.values (slice_index_or l.row.items k 0) ≡ Some (granule_at l.ram k);
}
