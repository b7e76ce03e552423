use Rattle.std.proofs.Common.{refl, ◌∙◌, ap, map}
use Rattle.explore_line.specs.Requests.{search_asked_by}
use Rattle.explore_program.specs.Listings.{listed_of}
use Rattle.explore_program.specs.Questions.{range_of}
use Rattle.explore_program.proofs.ProgramLemmas.{question_printed, question_fails}
use Rattle.explore_program.proofs.program.answer_labelled.Goals as goal

pub returns-clause-printed : goal.returns-clause-printed
returns-clause-printed g c =
    question_printed (search_asked_by c.args.request.now) c.args.listing.image.now _ _ (listed_of c.args.listing.listed) c.as_slice-2.result.now c.format_of.result refl
    (c.as_slice-2.ensures.value ∙ (c.in_ok-sweeps.ensures ∙ ap (map range_of) c.as_slice.ensures.value)) c.format_of.ensures
    c.answer_question.result _ _ c.answer_question.ensures.printed

pub returns-clause-failed : goal.returns-clause-failed
returns-clause-failed g c =
    question_fails (search_asked_by c.args.request.now) c.args.listing.image.now _ _ (listed_of c.args.listing.listed) c.as_slice-2.result.now c.format_of.result refl
    (c.as_slice-2.ensures.value ∙ (c.in_ok-sweeps.ensures ∙ ap (map range_of) c.as_slice.ensures.value)) c.format_of.ensures
    c.answer_question.result _ _ c.answer_question.ensures.failed
