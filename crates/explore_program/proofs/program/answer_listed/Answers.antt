use Rattle.explore_line.specs.Requests.{search_asked_by}
use Rattle.explore_program.specs.Listings.{listed_of}
use Rattle.explore_program.proofs.ProgramLemmas.{known_printed, known_fails}
use Rattle.explore_program.proofs.program.answer_listed.Goals as goal

pub returns-clause-printed : goal.returns-clause-printed
returns-clause-printed g c =
    known_printed (search_asked_by c.args.request.now) (listed_of c.args.listed) c.args.image.now _ _ c.in_ok-labels.ensures c.answer_labelled.result _ _
    c.answer_labelled.ensures.printed

pub returns-clause-failed : goal.returns-clause-failed
returns-clause-failed g c =
    known_fails (search_asked_by c.args.request.now) (listed_of c.args.listed) c.args.image.now _ _ c.in_ok-labels.ensures c.answer_labelled.result _ _
    c.answer_labelled.ensures.failed
