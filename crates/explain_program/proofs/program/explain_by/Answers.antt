use Rattle.std.proofs.Common.{true, map, refl}
use Rattle.std.proofs.lemmas.Result.{err_from_is_err_and}
use Rattle.explain_line.specs.Requests.{explain_asked_by}
use Rattle.explanations.specs.InstructionLines.{shown_source}
use Rattle.program_io.proofs.EndingLemmas.{all_fail, all_whole}
use Rattle.explain_program.specs.Faults.{own_failure}
use Rattle.explain_program.proofs.ProgramLemmas.{map_fails, of_map}
use Rattle.explain_program.proofs.program.explain_by.Goals as goal

pub returns-in_err-sources-clause-failed : goal.returns-in_err-sources-clause-failed
returns-in_err-sources-clause-failed g c =
    let p = err_from_is_err_and c.from_residual.result c.from_residual.ensures.1 in
    rw (p.1, p.2)
    (map_fails (explain_asked_by c.args.request) c.args.map.now c.args.listing.now c.args.order.now _ _ c.in_err-sources.field-0.0
    c.in_err-sources.ensures refl)

pub returns-clause-printed : goal.returns-clause-printed
returns-clause-printed g c =
    all_whole (λ stop. stop) own_failure true _ _
    (of_map (explain_asked_by c.args.request) c.args.map.now c.args.listing.now c.args.order.now (map shown_source c.as_slice.result.now)
    (rw c.as_slice.ensures.value c.in_ok-sources.ensures)) _ _ c.write_asked.result c.write_asked.ensures.printed

pub returns-clause-failed : goal.returns-clause-failed
returns-clause-failed g c =
    all_fail (λ stop. stop) own_failure true _ _
    (of_map (explain_asked_by c.args.request) c.args.map.now c.args.listing.now c.args.order.now (map shown_source c.as_slice.result.now)
    (rw c.as_slice.ensures.value c.in_ok-sources.ensures)) _ _ c.write_asked.result c.write_asked.ensures.failed
