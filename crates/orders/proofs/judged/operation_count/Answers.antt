use Rattle.std.proofs.Common.{◌≡◌, ◌∙◌, slice_index, Ok, Err, Some, sym, ap, arith}
use Rattle.std.proofs.lemmas.Result.{err_from_is_err_and}
use Rattle.orders.specs.Orders.{token_at, as_token, from_place, count_from}
use Rattle.orders.proofs.OrderLemmas.{token_first, token_faulty, operation_counted, end_counted}
use Rattle.orders.proofs.TextFaults.{fault_of_text}
use Rattle.orders.proofs.judged.operation_count.Goals as goal

pub returns-in_err-next-clause-count : goal.returns-in_err-next-clause-count
returns-in_err-next-clause-count c =
    let text = c.args.text.now in
    let place = c.loop-place.place in
    let fault = c.in_err-next.field-0.0 in
    let token : token_at text place (slice_index text place) ≡ Err fault = c.operation_at.ensures.token ∙ ap as_token c.in_err-next.was in
    let read : Err fault ≡ count_from text c.args.start =
    rw (token_faulty text place _ c.loop-place-test.true token) at c.loop-place.invariant.read in
    let p = err_from_is_err_and c.from_residual.result c.from_residual.ensures.1 in
    rw (p.1, p.2) read

pub returns-in_err-next-clause-fault : goal.returns-in_err-next-clause-fault
returns-in_err-next-clause-fault c =
    let text = c.args.text.now in
    let place = c.loop-place.place in
    let p = err_from_is_err_and c.from_residual.result c.from_residual.ensures.1 in
    rw (p.1, p.2) (fault_of_text text place (slice_index text place) _ (c.operation_at.ensures.token ∙ ap as_token c.in_err-next.was))

pub loop-place-preserved : goal.loop-place-preserved
loop-place-preserved c =
    let i = c.loop-place.invariant in
    let text = c.args.text.now in
    let place = c.loop-place.place in
    let operation = c.in_ok-next.field-0-0 in
    let next = c.in_ok-next.next in
    let token : token_at text place (slice_index text place) ≡ Ok (Some operation, next) = c.operation_at.ensures.token ∙ ap as_token c.in_ok-next.was in
    let ahead = c.in_ok-next.ensures.next in
    let first = token_first text place (Some operation) next c.loop-place-test.true token ahead.0 in
    let blanks = c.after_blanks-place-in-loop-place.ensures in record {
      inside = blanks.inside.1;
      token = blanks.token;
      few = omega (arith, i.few, ahead.0, blanks.inside.0);
      read = rw blanks.same (operation_counted c.loop-place.count operation (from_place text next) _ (rw first at i.read));
    }

pub returns-clause-count : goal.returns-clause-count
returns-clause-count c =
    sym (end_counted c.args.text.now c.loop-place.place c.loop-place.count c.loop-place-test.false) ∙ c.loop-place.invariant.read
