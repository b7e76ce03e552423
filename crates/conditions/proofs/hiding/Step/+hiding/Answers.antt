use Rattle.std.proofs.Common.{sym, ◌∙◌, refl}
use Rattle.conditions.proofs.PartLemmas.{is_none, is_joined}
use Rattle.conditions.proofs.SeenLemmas.{keep_none}
use Rattle.conditions.proofs.KeepingLemmas.{keeps_unit, keeps_said, keeps_denied, keeps_enclosed, keeps_counted, keeps_not_second, keeps_first, two_of, chain_unit, chain_single, chain_other, chain_not_second, chain_first}
use Rattle.conditions.specs.Hiding.{single}
use Rattle.conditions.proofs.hiding.Step.+hiding.Goals as goal

pub keeps-returns-in-Some : goal.keeps-returns-in-Some
keeps-returns-in-Some t c = λ formula is.
    keeps_unit c.args.wanted single formula c.args.self.now.before.now c.args.self.now.after.now c.in-Some.who _ _ _
    (sym c.in-Some.is ∙ c.alone.ensures formula is) (c.so_of-before.ensures formula is) (c.so_of-after.ensures formula is)
    c.stays_so.ensures

pub keeps_parts-returns-in-None : goal.keeps_parts-returns-in-None
keeps_parts-returns-in-None t c = λ formula is none. absurd (is_none formula (c.in-None.ensures.parted formula is))

pub keeps_parts-returns-in-Some-Says : goal.keeps_parts-returns-in-Some-Says
keeps_parts-returns-in-Some-Says t c = λ formula is none.
    keeps_said c.args.wanted formula c.args.self.now.before.now c.args.self.now.after.now _ none c.in-Some-Says.atom
    (rw c.in-Some-Says.field-0-is at c.in-Some-Says.ensures.parted formula is) c.keeps_atom.ensures

pub keeps_parts-returns-in-Some-Not : goal.keeps_parts-returns-in-Some-Not
keeps_parts-returns-in-Some-Not t c = λ formula is none.
    keeps_denied c.args.wanted formula c.args.self.now.before.now c.args.self.now.after.now _ none _
    (rw c.in-Some-Not.field-0-is at c.in-Some-Not.ensures.parted formula is) c.keeps.ensures

pub keeps_parts-returns-in-Some-Enclosed : goal.keeps_parts-returns-in-Some-Enclosed
keeps_parts-returns-in-Some-Enclosed t c = λ formula is none.
    keeps_enclosed c.args.wanted formula c.args.self.now.before.now c.args.self.now.after.now _ none _
    (rw c.in-Some-Enclosed.field-0-is at c.in-Some-Enclosed.ensures.parted formula is) c.keeps-in-Some-Enclosed.ensures

pub keeps_parts-returns-in-Some-Counted : goal.keeps_parts-returns-in-Some-Counted
keeps_parts-returns-in-Some-Counted t c = λ formula is none.
    keeps_counted c.args.wanted formula c.args.self.now.before.now c.args.self.now.after.now _ _ c.in-Some-Counted.comparison c.in-Some-Counted.number _ _ _ _
    (rw c.in-Some-Counted.field-0-is at c.in-Some-Counted.ensures.parted formula is) c.needs-up.ensures c.needs-down.ensures
    c.keeps-keeps_true.ensures c.keeps-keeps_false.ensures (c.both.ensures ∙ rw (c.implies.ensures, c.implies-in-Some-Counted.ensures) refl)

pub keeps_chain-returns-in-Some-clause-keeps : goal.keeps_chain-returns-in-Some-clause-keeps
keeps_chain-returns-in-Some-clause-keeps t c = λ whole formula is near all.
    chain_unit c.args.around.now.wanted c.args.around.now.joint whole formula c.args.self.now.before.now c.args.self.now.after.now _ c.in-Some.who
    (sym c.in-Some.is ∙ c.alone.ensures formula near) (c.keeps_unit.ensures.keeps whole is all)

pub keeps_chain-returns-in_default-joined_parts-clause-keeps : goal.keeps_chain-returns-in_default-joined_parts-clause-keeps
keeps_chain-returns-in_default-joined_parts-clause-keeps t c = λ whole formula is near all.
    let none = c.in_default.ensures formula near in
    chain_single c.args.around.now.wanted c.args.around.now.joint whole formula c.args.self.now.before.now c.args.self.now.after.now _
    (c.in_default-joined_parts.ensures.joined formula near) none (c.keeps_parts.ensures formula near none)

pub keeps_chain-returns-then-not-is_joint-clause-keeps : goal.keeps_chain-returns-then-not-is_joint-clause-keeps
keeps_chain-returns-then-not-is_joint-clause-keeps t c = λ whole formula is near all.
    let none = c.in_default.ensures formula near in
    chain_other c.args.around.now.wanted c.args.around.now.joint whole formula c.args.self.now.before.now c.args.self.now.after.now _
    _ _ _ (c.in-Some-joined_parts.ensures.joined formula near) (sym c.is_joint.ensures ∙ c.if-not-is_joint.true) none
    (c.keeps_parts-then-not-is_joint.ensures formula near none)

pub keeps_chain-returns-then-not-keeps_chain-clause-keeps : goal.keeps_chain-returns-then-not-keeps_chain-clause-keeps
keeps_chain-returns-then-not-keeps_chain-clause-keeps t c = λ whole formula is near all.
    chain_not_second c.args.around.now.wanted c.args.around.now.joint whole formula c.args.self.now.before.now c.args.self.now.after.now _
    _ _ _ _ (c.in-Some-joined_parts.ensures.joined formula near) (sym c.is_joint.ensures ∙ c.if-not-is_joint.false)
    (c.in_default.ensures formula near) (λ f part. c.keeps_chain.ensures.keeps whole f is part all) c.if-not-keeps_chain.true refl

pub keeps_chain-returns-clause-keeps : goal.keeps_chain-returns-clause-keeps
keeps_chain-returns-clause-keeps t c = λ whole formula is near all.
    let of = two_of formula _ _ _ (c.in-Some-joined_parts.ensures.joined formula near) in
    let after = c.keeps_chain.ensures.seen whole of.1 is of.4 all c.if-not-keeps_chain.false in
    chain_first c.args.around.now.wanted c.args.around.now.joint whole formula c.args.self.now.before.now c.args.self.now.after.now _
    _ _ _ _ (c.in-Some-joined_parts.ensures.joined formula near) (sym c.is_joint.ensures ∙ c.if-not-is_joint.false)
    (c.in_default.ensures formula near) (λ f part. c.keeps_chain.ensures.keeps whole f is part all) c.if-not-keeps_chain.false
    (λ f part. c.keeps_chain-2.ensures.keeps whole f is part after)

pub keeps_chain-returns-clause-seen : goal.keeps_chain-returns-clause-seen
keeps_chain-returns-clause-seen t c = λ whole formula is near all holds.
    let of = two_of formula _ _ _ (c.in-Some-joined_parts.ensures.joined formula near) in
    let after = c.keeps_chain.ensures.seen whole of.1 is of.4 all c.if-not-keeps_chain.false in
    c.keeps_chain-2.ensures.seen whole of.0 is of.3 after holds

pub keeps_parts-returns-then-not-keeps_chain : goal.keeps_parts-returns-then-not-keeps_chain
keeps_parts-returns-then-not-keeps_chain t c = λ formula is none.
    keeps_not_second c.args.wanted formula c.args.self.now.before.now c.args.self.now.after.now _ none c.in-Some-Joined.joint _ _ _
    (rw c.in-Some-Joined.field-0-is at c.in-Some-Joined.ensures.parted formula is)
    (λ f part. c.keeps_chain.ensures.keeps formula f is part (keep_none (record { wanted = c.args.wanted; joint = c.in-Some-Joined.joint; whole = c.args.entries }) formula c.args.self.now.before.now c.args.self.now.after.now _ c.none-seen.ensures))
    c.if-not-keeps_chain.true refl

pub keeps_parts-returns-else-not-keeps_chain : goal.keeps_parts-returns-else-not-keeps_chain
keeps_parts-returns-else-not-keeps_chain t c = λ formula is none.
    let parted = rw c.in-Some-Joined.field-0-is at c.in-Some-Joined.ensures.parted formula is in
    let of = is_joined formula c.in-Some-Joined.joint _ _ parted in
    let after = c.keeps_chain.ensures.seen formula of.1 is of.4 (keep_none (record { wanted = c.args.wanted; joint = c.in-Some-Joined.joint; whole = c.args.entries }) formula c.args.self.now.before.now c.args.self.now.after.now _ c.none-seen.ensures) c.if-not-keeps_chain.false in
    keeps_first c.args.wanted formula c.args.self.now.before.now c.args.self.now.after.now _ none c.in-Some-Joined.joint _ _ _ parted
    (λ f part. c.keeps_chain.ensures.keeps formula f is part (keep_none (record { wanted = c.args.wanted; joint = c.in-Some-Joined.joint; whole = c.args.entries }) formula c.args.self.now.before.now c.args.self.now.after.now _ c.none-seen.ensures))
    c.if-not-keeps_chain.false (λ f part. c.keeps_chain-in-Some-Joined.ensures.keeps formula f is part after)
