use Rattle.std.proofs.Common.{◌≡◌, ℕ, ◌<◌, length}
use Rattle.std.specs.Prelude.{slice_index_or}
use Rattle.origins.specs.Table.{place_at}
use Rattle.origins.specs.declared.place.Place.{Place}
use Rattle.origins.proofs.table.OriginTable.open.Given as goal

abbrev pub invariant-loop-slot : goal.invariant-loop-slot
invariant-loop-slot l =
    (length l.slots.items ≡ l.slot)
    × ((k : ℕ) (d : Place) → k < l.slot → slice_index_or l.slots.items k d ≡ place_at l.harts k)
