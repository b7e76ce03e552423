-- the operations counted so far and those of the tokens from here on, where no blank is, are as many as those of the
-- whole text
use Rattle.std.proofs.Common.{◌≡◌, ◌-◌, ◌≤◌, ◌<◌, false, length, slice_index}
use Rattle.orders.specs.Orders.{is_blank, from_place, count_from}
use Rattle.orders.proofs.OrderLemmas.{counted}
use Rattle.orders.proofs.judged.operation_count.Given as goal

abbrev pub invariant-loop-place : goal.invariant-loop-place
invariant-loop-place l = record {
  inside : l.place ≤ length l.text;
  token : l.place < length l.text → is_blank (slice_index l.text l.place) ≡ false;
  few : l.count ≤ l.place;
  read : counted l.count (from_place l.text l.place) ≡ count_from l.text l.start;
}

abbrev pub decreases-loop-place : goal.decreases-loop-place
decreases-loop-place l = length l.text - l.place
