use Rattle.conditions.proofs.JoinedLemmas.{two_parts, said_one, denied_one, enclosed_one, counted_one, none_one}
use Rattle.conditions.proofs.hiding.joined_parts.Goals as goal

pub returns-in-Some-Joined-clause-joined : goal.returns-in-Some-Joined-clause-joined
returns-in-Some-Joined-clause-joined c = λ formula is. two_parts formula _ _ _ (rw c.in-Some-Joined.field-0-is at c.in-Some-Joined.ensures.parted formula is)

pub returns-in-Some-Says-clause-joined : goal.returns-in-Some-Says-clause-joined
returns-in-Some-Says-clause-joined c = λ formula is. said_one formula _ (rw c.in-Some-Says.field-0-is at c.in-Some-Says.ensures.parted formula is)

pub returns-in-Some-Not-clause-joined : goal.returns-in-Some-Not-clause-joined
returns-in-Some-Not-clause-joined c = λ formula is. denied_one formula _ (rw c.in-Some-Not.field-0-is at c.in-Some-Not.ensures.parted formula is)

pub returns-in-Some-Enclosed-clause-joined : goal.returns-in-Some-Enclosed-clause-joined
returns-in-Some-Enclosed-clause-joined c = λ formula is. enclosed_one formula _ (rw c.in-Some-Enclosed.field-0-is at c.in-Some-Enclosed.ensures.parted formula is)

pub returns-in-Some-Counted-clause-joined : goal.returns-in-Some-Counted-clause-joined
returns-in-Some-Counted-clause-joined c = λ formula is. counted_one formula _ _ _ (rw c.in-Some-Counted.field-0-is at c.in-Some-Counted.ensures.parted formula is)

pub returns-in-None-clause-joined : goal.returns-in-None-clause-joined
returns-in-None-clause-joined c = λ formula is. none_one formula (c.in-None.ensures.parted formula is)
