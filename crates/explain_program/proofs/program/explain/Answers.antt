use Rattle.std.proofs.Common.{true}
use Rattle.explain_line.specs.Requests.{explain_asked_by}
use Rattle.program_io.proofs.EndingLemmas.{all_fail, all_whole}
use Rattle.explain_program.specs.Faults.{own_failure}
use Rattle.explain_program.proofs.ProgramLemmas.{of_files}
use Rattle.explain_program.proofs.program.explain.Goals as goal

pub returns-clause-printed : goal.returns-clause-printed
returns-clause-printed g c =
    all_whole (λ stop. stop) own_failure true _ _
    (of_files (g.F.Files.bytes_of c.args.files.now) (explain_asked_by c.args.request) c.as_slice-listing.result.now
    c.as_slice-order.result.now (rw c.as_slice-listing.ensures.value c.in_ok-texts.ensures.listing)
    (rw c.as_slice-order.ensures.value c.in_ok-texts.ensures.order)) _ _ c.explain_texts.result
    (rw c.in_ok-texts.ensures.kept at c.explain_texts.ensures.printed)

pub returns-clause-failed : goal.returns-clause-failed
returns-clause-failed g c =
    all_fail (λ stop. stop) own_failure true _ _
    (of_files (g.F.Files.bytes_of c.args.files.now) (explain_asked_by c.args.request) c.as_slice-listing.result.now
    c.as_slice-order.result.now (rw c.as_slice-listing.ensures.value c.in_ok-texts.ensures.listing)
    (rw c.as_slice-order.ensures.value c.in_ok-texts.ensures.order)) _ _ c.explain_texts.result
    (rw c.in_ok-texts.ensures.kept at c.explain_texts.ensures.failed)
