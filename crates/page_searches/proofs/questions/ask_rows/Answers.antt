use Rattle.page_searches.proofs.AskedLemmas.{rows_answered}
use Rattle.page_searches.proofs.questions.ask_rows.Goals as goal

pub returns : goal.returns
returns c =
    rows_answered c.args.listing.now c.args.items.now c.args.limit _ _ _ _
    c.in_ok-image.ensures.asked c.in_ok-items.ensures c.turns_of.ensures c.in_ok-rows.ensures
