use Rattle.std.proofs.Common.{◌≡◌, ◌∙◌, Ok, Err, sym}
use Rattle.std.proofs.lemmas.Result.{err_from_is_err_and}
use Rattle.orders.specs.Orders.{count_from}
use Rattle.orders.proofs.OrderLemmas.{whole_text, counted_faulty, counted_long, counted_short, counted_good, counted_left}
use Rattle.orders.proofs.judged.judge_order.Goals as goal

pub returns-in_err-count-clause-meaning : goal.returns-in_err-count-clause-meaning
returns-in_err-count-clause-meaning c =
    let text = c.args.text.now in
    let place = c.body_start-place.result in
    let counted : Err c.in_err-count.field-0.0 ≡ count_from text place = sym c.in_err-count.was ∙ c.operation_count.ensures.count in
    let p = err_from_is_err_and c.from_residual.result c.from_residual.ensures.1 in
    rw (p.1, p.2) (sym (whole_text text ∙ counted_faulty _ _ (rw c.body_start-place.ensures.start at counted)))

pub returns-then-count-gt-ORDER_LIMIT-clause-meaning : goal.returns-then-count-gt-ORDER_LIMIT-clause-meaning
returns-then-count-gt-ORDER_LIMIT-clause-meaning c =
    let text = c.args.text.now in
    let place = c.body_start-place.result in
    let counted : Ok c.in_ok-count.count ≡ count_from text place = sym c.in_ok-count.was ∙ c.operation_count.ensures.count in
    sym (whole_text text ∙ counted_long _ _ (rw c.body_start-place.ensures.start at counted) c.if-count-gt-ORDER_LIMIT.true)

pub returns-clause-meaning : goal.returns-clause-meaning
returns-clause-meaning c =
    let text = c.args.text.now in
    let place = c.body_start-place.result in
    let counted : Ok c.in_ok-count.count ≡ count_from text place = sym c.in_ok-count.was ∙ c.operation_count.ensures.count in
    rw c.body_start-place.ensures.start
    (sym (whole_text text ∙ counted_short _ _ (rw c.body_start-place.ensures.start at counted) c.if-count-gt-ORDER_LIMIT.false))

pub invariant_of-result : goal.invariant_of-result
invariant_of-result c =
    let counted : Ok c.in_ok-count.count ≡ count_from c.args.text.now c.body_start-place.result = sym c.in_ok-count.was ∙ c.operation_count.ensures.count in
    (record { inside = c.body_start-place.ensures.room; good = counted_good _ _ counted }, counted_left _ _ counted)
