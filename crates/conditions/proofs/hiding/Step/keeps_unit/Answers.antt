use Rattle.std.proofs.Common.{sym, ◌∙◌}
use Rattle.conditions.proofs.SeenLemmas.{unit_of, keep_more}
use Rattle.conditions.proofs.hiding.Step.keeps_unit.Goals as goal

pub returns-clause-keeps : goal.returns-clause-keeps
returns-clause-keeps c = λ whole is all.
    unit_of c.args.around.now.wanted c.args.around.now.joint whole c.args.self.now.before.now c.args.self.now.after.now c.args.who _ _ _
    (c.parts_so-before.ensures whole is) (c.parts_so-after.ensures whole is) c.stays_so.ensures

pub returns-clause-seen : goal.returns-clause-seen
returns-clause-seen c = λ whole is all holds.
    let kept =
    unit_of c.args.around.now.wanted c.args.around.now.joint whole c.args.self.now.before.now c.args.self.now.after.now c.args.who _ _ _
    (c.parts_so-before.ensures whole is) (c.parts_so-after.ensures whole is) c.stays_so.ensures in
    keep_more c.args.around.now whole c.args.self.now.before.now c.args.self.now.after.now c.args.seen.now c.add.new.self c.args.who all
    (sym kept ∙ holds) c.add.ensures
