use Rattle.std.proofs.Common.{false, refl}
use Rattle.std.specs.Prelude.{option_map}
use Rattle.std.proofs.lemmas.Result.{err_from_is_err_and}
use Rattle.explore_line.specs.Requests.{search_asked_by}
use Rattle.listing_maps.specs.Names.{sources_parts}
use Rattle.program_io.proofs.EndingLemmas.{all_fail, all_whole}
use Rattle.explore_program.specs.Faults.{own_failure}
use Rattle.explore_program.specs.Listings.{bytes_in, mapped_parts}
use Rattle.explore_program.proofs.ProgramLemmas.{of_request, texts_fail}
use Rattle.explore_program.proofs.program.answer_texts.Goals as goal

pub returns-in_err-mapped-clause-failed : goal.returns-in_err-mapped-clause-failed
returns-in_err-mapped-clause-failed g c =
    let p = err_from_is_err_and c.from_residual.result c.from_residual.ensures.1 in
    rw (p.1, p.2)
    (texts_fail c.args.listing.now (option_map bytes_in c.args.map) (search_asked_by c.args.request.now)
    c.in_err-mapped.field-0.0 _ _ c.in_err-mapped.ensures.whole refl)

pub returns-clause-printed : goal.returns-clause-printed
returns-clause-printed g c =
    all_whole (λ ending. ending) own_failure false _ _
    (of_request c.args.listing.now (option_map bytes_in c.args.map) (search_asked_by c.args.request.now)
    (mapped_parts c.in_ok-mapped.mapped) (option_map sources_parts c.sources-sources.result) c.in_ok-mapped.ensures.whole c.sources-sources.ensures)
    _ _ c.answer_listed.result c.answer_listed.ensures.printed

pub returns-clause-failed : goal.returns-clause-failed
returns-clause-failed g c =
    all_fail (λ ending. ending) own_failure false _ _
    (of_request c.args.listing.now (option_map bytes_in c.args.map) (search_asked_by c.args.request.now)
    (mapped_parts c.in_ok-mapped.mapped) (option_map sources_parts c.sources-sources.result) c.in_ok-mapped.ensures.whole c.sources-sources.ensures)
    _ _ c.answer_listed.result c.answer_listed.ensures.failed
