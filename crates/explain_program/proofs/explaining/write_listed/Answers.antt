use Rattle.std.proofs.Common.{ap}
use Rattle.std.specs.Prelude.{option_map}
use Rattle.explanations.specs.InstructionLines.{shown_sources}
use Rattle.std.proofs.lemmas.Result.{err_from_is_err_and}
use Rattle.explain_program.proofs.ExplainLemmas.{listed_unwritten}
use Rattle.explain_program.proofs.explaining.write_listed.Goals as goal

pub returns-in_err-refused-clause-failed : goal.returns-in_err-refused-clause-failed
returns-in_err-refused-clause-failed g c =
    let p = err_from_is_err_and c.from_residual.result c.from_residual.ensures.1 in
    rw (p.1, p.2)
    (listed_unwritten c.args.text.now.format (option_map shown_sources c.args.text.now.sources) c.args.text.now.selection c.args.listing.now c.args.order.now c.in_err-refused.field-0.0 _ _
    c.in_err-refused.ensures.refused (λ early. ap g.S.Sink.written (c.in_err-refused.ensures.untouched early)))
