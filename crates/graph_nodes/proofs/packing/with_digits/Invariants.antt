use Rattle.std.proofs.Common.{◌≡◌, ℕ, ◌^◌, ◌<◌, ◌≤◌, drop, length}
use Rattle.std.specs.Prelude.{slice_index}
use Rattle.graph_nodes.proofs.PackingLemmas.{all_wrapped}
use Rattle.graph_nodes.proofs.packing.with_digits.Given as goal

-- the word of the digits so far, and the largest of them
abbrev pub invariant-loop-digit : goal.invariant-loop-digit
invariant-loop-digit l = record {
  word : all_wrapped l.bits l.word (drop l.digit-index l.digits) ≡ all_wrapped l.bits l.first l.digits;
  above : (k : ℕ) → k < l.digit-index → slice_index l.digits k ≤ l.largest;
  there : 2 ^ l.bits ≤ l.largest → (k : ℕ) × (k < length l.digits) × (2 ^ l.bits ≤ slice_index l.digits k);
}
