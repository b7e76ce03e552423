use Rattle.std.proofs.Common.{◌≡◌, ℕ, ◌+◌, ◌*◌, ◌<◌, ◌≤◌, refl, ◌∙◌, arith, length}
use Rattle.std.proofs.lemmas.Grind.{common_steps}
use Rattle.origins.specs.Table.{origin_in, slot_of}
use Rattle.origins.proofs.Slots.{slot_inside, place_at-slot_of}
use Rattle.origins.proofs.table.OriginTable.open.Goals as goal

pub returns : goal.returns
unfolding origin_in
returns c =
    let items = c.loop-slot.slots.items in
    let size : length items ≡ 33 * c.args.harts + c.args.granules = grind (arith, common_steps) in
    let fits : 33 * c.args.harts ≤ length items = omega (arith, size) in
    let whole : length items ≡ c.loop-slot.slot = c.loop-slot.invariant.0 in
    record {
      harts = refl;
      size = size;
      own = λ place is.
          let inside = slot_inside c.args.harts (length items) place fits is in
          c.loop-slot.invariant.1 (slot_of c.args.harts place) place (rw whole at inside)
          ∙ place_at-slot_of c.args.harts (length items) place is;
    }
