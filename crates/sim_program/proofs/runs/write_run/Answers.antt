use Rattle.std.proofs.Common.{ap}
use Rattle.std.proofs.lemmas.Result.{err_from_is_err_and}
use Rattle.sim_program.proofs.RunLemmas.{report_unwritten}
use Rattle.sim_program.proofs.runs.write_run.Goals as goal

pub returns-in_err-refused-clause-failed : goal.returns-in_err-refused-clause-failed
returns-in_err-refused-clause-failed g c =
    let p = err_from_is_err_and c.from_residual.result c.from_residual.ensures.1 in
    rw (p.1, p.2)
    (report_unwritten c.args.form c.args.listing.now c.args.order.now c.in_err-refused.field-0.0 _ _
    c.in_err-refused.ensures.refused (λ early. ap g.S.Sink.written (c.in_err-refused.ensures.untouched early)))
