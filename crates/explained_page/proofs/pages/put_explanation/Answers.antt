use Rattle.explained_page.specs.Page.{explanation_part}
use Rattle.explained_page.proofs.PageLemmas.{stops_before, then_stops}
use Rattle.explained_page.proofs.pages.put_explanation.Goals as goal

pub returns-in_err-put_whole-clause-prefix : goal.returns-in_err-put_whole-clause-prefix
unfolding explanation_part
returns-in_err-put_whole-clause-prefix g c =
    stops_before _ _ _ _ (rw (c.as_bytes.ensures.value, c.page_head.ensures) at c.put_whole.ensures.prefix)

pub returns-in_err-write_json-clause-prefix : goal.returns-in_err-write_json-clause-prefix
unfolding explanation_part
returns-in_err-write_json-clause-prefix g c =
    then_stops _ _ _ _ _ (rw (c.as_bytes.ensures.value, c.page_head.ensures) at c.in_ok-put_whole.ensures.whole)
    (rw c.new-lines.ensures at c.write_json.ensures.prefix)

pub returns-clause-prefix : goal.returns-clause-prefix
unfolding explanation_part
returns-clause-prefix g c =
    then_stops _ _ _ _ _ (rw (c.as_bytes.ensures.value, c.page_head.ensures) at c.in_ok-put_whole.ensures.whole)
    (rw c.new-lines.ensures at c.write_json.ensures.prefix)
