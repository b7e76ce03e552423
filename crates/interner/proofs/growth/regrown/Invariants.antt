use Rattle.std.proofs.Common.{◌≡◌, ℕ, ◌<◌, ◌≤◌, length}
use Rattle.std.specs.Prelude.{slice_index}
use Rattle.interner.specs.Slots.{HasPlace}
use Rattle.interner.proofs.growth.regrown.Given as goal

-- each slot so far has its place, and no other is there
abbrev pub invariant-loop-slot : goal.invariant-loop-slot
invariant-loop-slot l = record {
  room : l.homes ≤ length l.new.items;
  old : (p : ℕ) → 0 < slice_index l.new.items p →
      (q : ℕ) × (slice_index l.new.items p ≡ slice_index l.slots q);
  placed : (q : ℕ) → q < l.slot-index → 0 < slice_index l.slots q →
      HasPlace l.new.items l.homes (slice_index l.slots q);
}
