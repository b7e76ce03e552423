use Rattle.std.proofs.Common.{sym, ◌∙◌, arith}
use Rattle.conditions.proofs.PartLemmas.{is_none}
use Rattle.conditions.proofs.HoldingLemmas.{many_none, many_step, many_bound, many_all, many_said, so_said, so_denied, so_enclosed, so_decided, so_joined, so_counted}
use Rattle.conditions.proofs.holding.+holding.Goals as goal

pub how_many-returns-in-Some-Says : goal.how_many-returns-in-Some-Says
how_many-returns-in-Some-Says g t c = λ formula is.
    many_said _ formula c.in-Some-Says.atom _ _ (rw c.in-Some-Says.field-0-is at c.in-Some-Says.ensures.parted formula is) c.how_many_say.ensures

pub how_many-loop-hart-init : goal.how_many-loop-hart-init
how_many-loop-hart-init g t c = (omega arith, λ formula is. many_none _)

pub how_many-one_more-count-requires : goal.how_many-one_more-count-requires
how_many-one_more-count-requires g t c = omega (arith, c.loop-hart.invariant.0, c.loop-hart-test.true, c.loop-hart.auto.hart-end)

pub how_many-loop-hart-preserved : goal.how_many-loop-hart-preserved
how_many-loop-hart-preserved g t c = (
  many_bound c.loop-hart.hart _ _ _ c.loop-hart.invariant.0 c.one_more-count.ensures,
  λ formula is. many_step _ c.loop-hart.hart _ _ _ (c.loop-hart.invariant.1 formula is) (c.is_so.ensures formula is) c.one_more-count.ensures,
)

pub how_many-returns : goal.how_many-returns
how_many-returns g t c = λ formula is.
    many_all _ c.loop-hart.hart _ _ (c.loop-hart.invariant.1 formula is) (omega (arith, c.loop-hart-test.false, c.loop-hart.auto.hart-end, c.hart_count-hart-end.ensures))

pub is_so-returns-then-decides : goal.is_so-returns-then-decides
is_so-returns-then-decides g t c = λ formula is.
    so_decided _ c.args.each formula c.in-Some-Joined.joint _ _ _
    (rw c.in-Some-Joined.field-0-is at c.in-Some-Joined.ensures.parted formula is) c.is_so-answer.ensures (sym c.decides.ensures ∙ c.if-decides.true)

pub is_so-returns-in-None : goal.is_so-returns-in-None
is_so-returns-in-None g t c = λ formula is. absurd (is_none formula (c.in-None.ensures.parted formula is))

pub is_so-returns-in-Some-Says : goal.is_so-returns-in-Some-Says
is_so-returns-in-Some-Says g t c = λ formula is.
    so_said _ c.args.each formula c.in-Some-Says.atom _ (rw c.in-Some-Says.field-0-is at c.in-Some-Says.ensures.parted formula is) c.holds.ensures

pub is_so-returns-in-Some-Not : goal.is_so-returns-in-Some-Not
is_so-returns-in-Some-Not g t c = λ formula is.
    so_denied _ c.args.each formula _ _ (rw c.in-Some-Not.field-0-is at c.in-Some-Not.ensures.parted formula is) c.is_so.ensures

pub is_so-returns-in-Some-Enclosed : goal.is_so-returns-in-Some-Enclosed
is_so-returns-in-Some-Enclosed g t c = λ formula is.
    so_enclosed _ c.args.each formula _ _ (rw c.in-Some-Enclosed.field-0-is at c.in-Some-Enclosed.ensures.parted formula is) c.is_so-in-Some-Enclosed.ensures

pub is_so-returns-else-decides : goal.is_so-returns-else-decides
is_so-returns-else-decides g t c = λ formula is.
    so_joined _ c.args.each formula c.in-Some-Joined.joint _ _ _ _
    (rw c.in-Some-Joined.field-0-is at c.in-Some-Joined.ensures.parted formula is) c.is_so-answer.ensures (sym c.decides.ensures ∙ c.if-decides.false)
    c.is_so-in-Some-Joined.ensures

pub is_so-returns-in-Some-Counted : goal.is_so-returns-in-Some-Counted
is_so-returns-in-Some-Counted g t c = λ formula is.
    so_counted _ c.args.each formula _ c.in-Some-Counted.comparison c.in-Some-Counted.number _ _
    (rw c.in-Some-Counted.field-0-is at c.in-Some-Counted.ensures.parted formula is) c.how_many.ensures c.holds-in-Some-Counted.ensures
