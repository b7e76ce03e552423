use Rattle.std.proofs.Common.{◌≢◌, ℕ, ◌-◌, ◌<◌, ◌≤◌, [], ◌∷◌, length}
use Rattle.std.specs.Prelude.{slice_index}
use Rattle.interner.specs.Rows.{row_at}
use Rattle.interner.specs.Slots.{link_in}
use Rattle.interner.proofs.word_slots.place_of.Given as goal

-- the slots so far name other words
abbrev pub invariant-loop-place : goal.invariant-loop-place
invariant-loop-place l = record {
  after : l.home ≤ l.place;
  within : l.place ≤ length l.slots;
  passed : (p : ℕ) → l.home ≤ p → p < l.place → 0 < slice_index l.slots p;
  others : (p : ℕ) → l.home ≤ p → p < l.place →
      row_at 1 l.words (link_in (slice_index l.slots p) - 1) ≢ l.word ∷ [];
}

abbrev pub decreases-loop-place : goal.decreases-loop-place
decreases-loop-place l = length l.slots - l.place
