use Rattle.std.proofs.Common.{◌≡◌, ◌<◌, sym, subst, ◌∙◌, arith, length}
use Rattle.std.proofs.lemmas.List.{get_or_default}
use Rattle.std.proofs.lemmas.Grind.{common_steps}
use Rattle.origins.specs.Table.{origin_in, slot_of, IsPlace}
use Rattle.origins.proofs.Slots.{slot_inside}
use Rattle.origins.proofs.table.OriginTable.origin.Goals as goal

pub index-requires : goal.index-requires
index-requires c =
    let is = subst (λ t. IsPlace t c.args.place) (sym c.self.view_is) c.requires in
    let inside : slot_of c.self.inside.harts c.args.place < length c.self.inside.slots.items =
    slot_inside c.self.inside.harts (length c.self.inside.slots.items) c.args.place c.self.invariant is in
    grind (arith, common_steps, c.slot.ensures)

pub returns : goal.returns
unfolding origin_in
returns c =
    let is = subst (λ t. IsPlace t c.args.place) (sym c.self.view_is) c.requires in
    let inside : slot_of c.self.inside.harts c.args.place < length c.self.inside.slots.items =
    slot_inside c.self.inside.harts (length c.self.inside.slots.items) c.args.place c.self.invariant is in
    rw (← c.self.view_is) (c.index.ensures
    ∙ rw c.slot.ensures (get_or_default c.self.inside.slots.items (slot_of c.self.inside.harts c.args.place) c.index.result.now c.args.place inside))
