use Rattle.std.proofs.Common.{sym, refl, arith}
use Rattle.conditions.proofs.EntryLemmas.{ended, none_parted, parted_says, parted_not, parted_enclosed, parted_joined, parted_counted}
use Rattle.conditions.proofs.formulas.parts_of.Goals as goal

pub returns-in_default-clause-parted : goal.returns-in_default-clause-parted
returns-in_default-clause-parted c = λ formula is. none_parted formula c.args.entries.now c.in_default.len_below is

pub returns-in-Says-clause-parted : goal.returns-in-Says-clause-parted
returns-in-Says-clause-parted c = λ formula is.
    parted_says formula c.args.entries.now _ _ c.in-Says.atom _ c.in-Says.is (ended c.args.entries.now _ _ (omega (arith, c.in-len1-up.len_at_least)) (sym c.last-item.is)) is refl

pub returns-in-Not-clause-parted : goal.returns-in-Not-clause-parted
returns-in-Not-clause-parted c = λ formula is.
    parted_not formula c.args.entries.now _ _ _ c.in-Not.is (ended c.args.entries.now _ _ (omega (arith, c.in-len1-up.len_at_least)) (sym c.last-item.is)) is refl

pub returns-in-Enclosed-clause-parted : goal.returns-in-Enclosed-clause-parted
returns-in-Enclosed-clause-parted c = λ formula is.
    parted_enclosed formula c.args.entries.now _ _ _ c.in-Enclosed.is (ended c.args.entries.now _ _ (omega (arith, c.in-len1-up.len_at_least)) (sym c.last-item.is)) is refl

pub returns-in-Joined-clause-parted : goal.returns-in-Joined-clause-parted
returns-in-Joined-clause-parted c = λ formula is.
    parted_joined formula c.args.entries.now _ _ c.in-Joined.joint c.in-Joined.second _ c.in-Joined.is (ended c.args.entries.now _ _ (omega (arith, c.in-len1-up.len_at_least)) (sym c.last-item.is)) is c.two_parts.ensures.two

pub returns-in-Counted-clause-parted : goal.returns-in-Counted-clause-parted
returns-in-Counted-clause-parted c = λ formula is.
    parted_counted formula c.args.entries.now _ _ _ c.in-Counted.comparison c.in-Counted.number c.in-Counted.is (ended c.args.entries.now _ _ (omega (arith, c.in-len1-up.len_at_least)) (sym c.last-item.is)) is refl
