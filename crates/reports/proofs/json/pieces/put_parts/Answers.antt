use Rattle.std.proofs.Common.{append_assoc, string_bytes}
use Rattle.reports.specs.JsonText.{json_parts, events_part, harts_part, memory_part}
use Rattle.sinks.proofs.SinkLemmas.{takes_on, stops_on, begins_on, takes_on_ok}
use Rattle.reports.proofs.ReportParts.{three_parts}
use Rattle.reports.proofs.json.pieces.put_parts.Goals as goal

pub returns-in_err-put_events_part-clause-prefix : goal.returns-in_err-put_events_part-clause-prefix
unfolding json_parts
returns-in_err-put_events_part-clause-prefix g c =
    rw (← append_assoc) (begins_on _ _ _ _ c.put_events_part.ensures.prefix)

pub returns-in_err-put_harts_part-clause-prefix : goal.returns-in_err-put_harts_part-clause-prefix
unfolding json_parts
returns-in_err-put_harts_part-clause-prefix g c =
    rw (← three_parts)
    (begins_on _ _ _ _ (stops_on _ _ _ _ _ _ c.in_ok-put_events_part.ensures.whole c.put_harts_part.ensures.prefix))

pub returns-clause-prefix : goal.returns-clause-prefix
unfolding json_parts
returns-clause-prefix g c =
    rw (← three_parts)
    (stops_on _ _ _ _ _ _ (takes_on _ _ _ _ _ _ _ c.in_ok-put_events_part.ensures.whole c.in_ok-put_harts_part.ensures.whole)
    c.put_memory_part.ensures.prefix)

pub returns-clause-whole : goal.returns-clause-whole
unfolding json_parts
returns-clause-whole g c =
    takes_on_ok _ _ _ _ _ _ _ _ _
    (three_parts (string_bytes c.args.out.now) (events_part c.args.view.entries.now)
    (harts_part c.args.view.harts.now) (memory_part c.args.view.image.now c.args.view.ram.now))
    (takes_on _ _ _ _ _ _ _ c.in_ok-put_events_part.ensures.whole c.in_ok-put_harts_part.ensures.whole) c.put_memory_part.ensures.whole
