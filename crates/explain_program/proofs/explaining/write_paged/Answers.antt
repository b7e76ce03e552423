use Rattle.std.proofs.Common.{ap}
use Rattle.std.proofs.lemmas.Result.{err_from_is_err_and}
use Rattle.explain_program.proofs.ExplainLemmas.{page_unwritten}
use Rattle.explain_program.proofs.explaining.write_paged.Goals as goal

pub returns-in_err-end-clause-failed : goal.returns-in_err-end-clause-failed
returns-in_err-end-clause-failed g c sources =
    let p = err_from_is_err_and c.from_residual.result c.from_residual.ensures.1 in
    rw (p.1, p.2)
    (page_unwritten sources c.args.first c.args.last c.args.listing.now c.args.order.now c.in_err-end.field-0.0 _ _
    c.in_err-end.ensures.refused (λ early. ap g.S.Sink.written (c.in_err-end.ensures.untouched early)))
