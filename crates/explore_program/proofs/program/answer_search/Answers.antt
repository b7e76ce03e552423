use Rattle.std.proofs.Common.{false, refl}
use Rattle.std.proofs.lemmas.Result.{err_from_is_err_and}
use Rattle.explore_line.specs.Requests.{search_asked_by}
use Rattle.program_io.proofs.EndingLemmas.{all_fail, all_whole}
use Rattle.explore_program.specs.Faults.{own_failure}
use Rattle.explore_program.proofs.ProgramLemmas.{listing_unread, of_listing_file}
use Rattle.explore_program.proofs.program.answer_search.Goals as goal

pub returns-in_err-text-clause-failed : goal.returns-in_err-text-clause-failed
returns-in_err-text-clause-failed g c =
    let p = err_from_is_err_and c.from_residual.result c.from_residual.ensures.1 in
    rw (p.1, p.2)
    (listing_unread (g.F.Files.bytes_of c.args.files.now) (search_asked_by c.args.request.now) c.in_err-text.field-0.0 _ _
    c.in_err-text.ensures.refused refl)

pub returns-clause-printed : goal.returns-clause-printed
returns-clause-printed g c =
    all_whole (λ ending. ending) own_failure false _ _
    (of_listing_file (g.F.Files.bytes_of c.args.files.now) (search_asked_by c.args.request.now) c.as_slice.result.now
    (rw c.as_slice.ensures.value c.in_ok-text.ensures.bytes)) _ _ c.answer_mapped.result
    (rw c.in_ok-text.ensures.kept at c.answer_mapped.ensures.printed)

pub returns-clause-failed : goal.returns-clause-failed
returns-clause-failed g c =
    all_fail (λ ending. ending) own_failure false _ _
    (of_listing_file (g.F.Files.bytes_of c.args.files.now) (search_asked_by c.args.request.now) c.as_slice.result.now
    (rw c.as_slice.ensures.value c.in_ok-text.ensures.bytes)) _ _ c.answer_mapped.result
    (rw c.in_ok-text.ensures.kept at c.answer_mapped.ensures.failed)
