use Rattle.std.proofs.Common.{sym, ◌∙◌}
use Rattle.conditions.proofs.KeepingLemmas.{parts_none, parts_other, parts_decided, parts_both}
use Rattle.conditions.proofs.hiding.+parts_so.Goals as goal

pub returns-in_default : goal.returns-in_default
returns-in_default t c = λ formula is.
    parts_none c.args.joint c.args.who c.args.hart.now formula _ (c.in_default.ensures.joined formula is) (c.part_so.ensures formula is)

pub returns-then-not-is_joint : goal.returns-then-not-is_joint
returns-then-not-is_joint t c = λ formula is.
    parts_other c.args.joint c.args.who c.args.hart.now formula _ _ _ _ (c.in-Some.ensures.joined formula is)
    (sym c.is_joint.ensures ∙ c.if-not-is_joint.true) (c.part_so-then-not-is_joint.ensures formula is)

pub returns-then-decides : goal.returns-then-decides
returns-then-decides t c = λ formula is.
    parts_decided c.args.joint c.args.who c.args.hart.now formula _ _ _ _ (c.in-Some.ensures.joined formula is)
    (sym c.is_joint.ensures ∙ c.if-not-is_joint.false) c.parts_so-answer.ensures (sym c.decides.ensures ∙ c.if-decides.true)

pub returns : goal.returns
returns t c = λ formula is.
    parts_both c.args.joint c.args.who c.args.hart.now formula _ _ _ _ _ (c.in-Some.ensures.joined formula is)
    (sym c.is_joint.ensures ∙ c.if-not-is_joint.false) c.parts_so-answer.ensures (sym c.decides.ensures ∙ c.if-decides.false) c.parts_so.ensures
