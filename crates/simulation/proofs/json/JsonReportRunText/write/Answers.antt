-- A view shows what the core took; after its report comes the end of the line.
use Rattle.simulation.proofs.LineLemmas.{line_begins, line_printed, line_stops}
use Rattle.simulation.proofs.json.JsonReportRunText.write.Goals as goal

pub returns-in_err-write_json-clause-prefix : goal.returns-in_err-write_json-clause-prefix
returns-in_err-write_json-clause-prefix g c =
    let begun = rw (c.view.ensures.image, c.view.ensures.entries, c.view.ensures.state) at c.write_json.ensures.prefix in
    line_begins _ _ _ begun

pub returns-in_err-put_whole-clause-prefix : goal.returns-in_err-put_whole-clause-prefix
returns-in_err-put_whole-clause-prefix g c =
    let whole = rw (c.view.ensures.image, c.view.ensures.entries, c.view.ensures.state) at c.in_ok-write_json.ensures.whole in
    line_stops _ _ _ _ whole c.put_whole.ensures.prefix

pub returns-clause-whole : goal.returns-clause-whole
returns-clause-whole g c =
    let whole = rw (c.view.ensures.image, c.view.ensures.entries, c.view.ensures.state) at c.in_ok-write_json.ensures.whole in
    line_printed _ _ _ _ whole c.in_ok-put_whole.ensures.whole

pub returns-clause-prefix : goal.returns-clause-prefix
returns-clause-prefix g c =
    let whole = rw (c.view.ensures.image, c.view.ensures.entries, c.view.ensures.state) at c.in_ok-write_json.ensures.whole in
    line_stops _ _ _ _ whole c.put_whole.ensures.prefix
