use Rattle.explained_page.specs.Page.{page_of}
use Rattle.explained_page.proofs.PageLemmas.{stops_before, then_stops}
use Rattle.explained_page.proofs.pages.put_page.Goals as goal

pub returns-in_err-put_state-clause-prefix : goal.returns-in_err-put_state-clause-prefix
unfolding page_of
returns-in_err-put_state-clause-prefix g c =
    then_stops _ _ _ _ _ c.in_ok-put_explanation.ensures.whole (stops_before _ _ _ _ c.put_state.ensures.prefix)

pub returns-in_err-put_listing-clause-prefix : goal.returns-in_err-put_listing-clause-prefix
unfolding page_of
returns-in_err-put_listing-clause-prefix g c =
    then_stops _ _ _ _ _ c.in_ok-put_explanation.ensures.whole
    (then_stops _ _ _ _ _ c.in_ok-put_state.ensures.whole c.put_listing.ensures.prefix)

pub returns-clause-prefix : goal.returns-clause-prefix
unfolding page_of
returns-clause-prefix g c =
    then_stops _ _ _ _ _ c.in_ok-put_explanation.ensures.whole
    (then_stops _ _ _ _ _ c.in_ok-put_state.ensures.whole c.put_listing.ensures.prefix)
