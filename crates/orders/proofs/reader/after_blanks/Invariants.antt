-- the bytes that were passed over hold no operation
use Rattle.std.proofs.Common.{◌≡◌, ◌-◌, ◌≤◌, length}
use Rattle.orders.specs.Orders.{from_place}
use Rattle.orders.proofs.reader.after_blanks.Given as goal

abbrev pub invariant-loop-place : goal.invariant-loop-place
invariant-loop-place l = record {
  ahead : l.start ≤ l.place;
  inside : l.place ≤ length l.text;
  same : from_place l.text l.place ≡ from_place l.text l.start;
}

abbrev pub decreases-loop-place : goal.decreases-loop-place
decreases-loop-place l = length l.text - l.place
