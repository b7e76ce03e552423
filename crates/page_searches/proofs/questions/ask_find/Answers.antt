use Rattle.page_searches.proofs.AskedLemmas.{find_answered}
use Rattle.page_searches.proofs.questions.ask_find.Goals as goal

pub returns : goal.returns
returns c =
    find_answered c.args.listing.now c.args.condition.now c.args.limit _ _ _ _ _
    c.in_ok-image.ensures.asked c.in_ok-labels.ensures c.in_ok-condition.ensures c.turns_of.ensures c.in_ok-found.ensures
