use Rattle.std.proofs.Common.{◌≡◌, ◌*◌, ◌≤◌, [], ◌∷◌, subst, length}
use Rattle.origins.specs.Table.{list_of, AreFlows}
use Rattle.origins.proofs.Slots.{after_none, after_more}
use Rattle.origins.proofs.table.OriginTable.follow.Goals as goal

pub returns-in-Nothing : goal.returns-in-Nothing
returns-in-Nothing c = rw c.in-Nothing.is (after_none c.args.hart c.args.self.now)

pub returns-in-One : goal.returns-in-One
returns-in-One c =
    let fits = subst (λ t. 33 * t.harts ≤ length t.slots) c.self.view_is c.self.invariant in
    let are = rw c.in-One.is at c.requires in
    rw (c.in-One.is, c.set.ensures, c.of-in-One.ensures, c.origin-origin.ensures, c.of.ensures)
    (after_more c.args.hart c.in-One.flow [] c.args.self.now c.args.self.now fits are.0 (after_none c.args.hart c.args.self.now))

pub returns-in-Two : goal.returns-in-Two
returns-in-Two c =
    let fits = subst (λ t. 33 * t.harts ≤ length t.slots) c.self.view_is c.self.invariant in
    let are = rw c.in-Two.is at c.requires in
    let second = after_more c.args.hart c.in-Two.second [] c.args.self.now c.args.self.now fits are.2.0
    (after_none c.args.hart c.args.self.now) in
    rw (c.in-Two.is, c.set-in-Two-2.ensures, c.of-in-Two-4.ensures, c.set-in-Two.ensures, c.of-in-Two-3.ensures)
    (rw (c.origin-first_origin.ensures, c.of-in-Two.ensures, c.origin-second_origin.ensures, c.of-in-Two-2.ensures)
    (after_more c.args.hart c.in-Two.first (c.in-Two.second ∷ []) c.args.self.now _ fits are.0 second))
