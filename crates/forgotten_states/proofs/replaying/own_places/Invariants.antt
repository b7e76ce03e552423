-- so far each hart stands in its own place
use Rattle.std.proofs.Common.{◌≡◌, ℕ, length}
use Rattle.forgotten_states.proofs.ReplayLemmas.{place_of}
use Rattle.forgotten_states.proofs.replaying.own_places.Given as goal

abbrev pub invariant-loop-place : goal.invariant-loop-place
invariant-loop-place l = record {
  count : length l.places.items ≡ l.place;
  own : (i : ℕ) → place_of l.places.items i ≡ i;
}
