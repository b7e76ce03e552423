-- the registers so far are loaded
use Rattle.std.proofs.Common.{◌≡◌, ◌+◌, ◌<◌, ℕ, length}
use Rattle.std.specs.Prelude.{Some, slice_get, slice_index_or}
use Rattle.state_store.specs.Codes.{status_of}
use Rattle.state_store.proofs.harts.load_hart.Given as goal

abbrev pub invariant-loop-number : goal.invariant-loop-number
invariant-loop-number l = record {
  count : length l.hart.regs ≡ 32;
  status : status_of (slice_index_or l.row 0 0) ≡ Some l.hart.status;
  pcc : slice_get l.values (slice_index_or l.row 1 0) ≡ Some l.hart.pcc;
  registers : (i : ℕ) → 0 < i → i < l.number →
      slice_get l.values (slice_index_or l.row (i + 1) 0) ≡ slice_get l.hart.regs i;
}
