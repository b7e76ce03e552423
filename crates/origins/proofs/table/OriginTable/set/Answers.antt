use Rattle.std.proofs.Common.{◌≡◌, ◌<◌, sym, subst, arith, length}
use Rattle.std.proofs.lemmas.Grind.{common_steps}
use Rattle.origins.specs.Table.{slot_of, IsPlace}
use Rattle.origins.proofs.Slots.{slot_inside}
use Rattle.origins.proofs.table.OriginTable.set.Goals as goal

pub index_mut-requires : goal.index_mut-requires
index_mut-requires c =
    let is = subst (λ t. IsPlace t c.args.place) (sym c.self.view_is) c.requires in
    let inside : slot_of c.self.inside.harts c.args.place < length c.self.inside.slots.items =
    slot_inside c.self.inside.harts (length c.self.inside.slots.items) c.args.place c.self.invariant is in
    grind (arith, common_steps, c.slot-at.ensures)
