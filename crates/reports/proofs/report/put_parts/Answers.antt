use Rattle.std.proofs.Common.{append_assoc, string_bytes}
use Rattle.report_lines.specs.Lines.{event_line, granule_line}
use Rattle.report_lines.specs.Texts.{numbered}
use Rattle.reports.specs.Report.{shown_lines, hart_lines}
use Rattle.sinks.proofs.SinkLemmas.{takes_on, stops_on, begins_on, takes_on_ok}
use Rattle.reports.proofs.ReportParts.{three_parts}
use Rattle.reports.proofs.report.put_parts.Goals as goal

pub returns-in_err-put_events-clause-prefix : goal.returns-in_err-put_events-clause-prefix
unfolding shown_lines
returns-in_err-put_events-clause-prefix g c =
    rw (← append_assoc) (begins_on _ _ _ _ c.put_events.ensures.prefix)

pub returns-in_err-put_harts-clause-prefix : goal.returns-in_err-put_harts-clause-prefix
unfolding shown_lines
returns-in_err-put_harts-clause-prefix g c =
    rw (← three_parts)
    (begins_on _ _ _ _ (stops_on _ _ _ _ _ _ c.in_ok-put_events.ensures.whole c.put_harts.ensures.prefix))

pub returns-clause-prefix : goal.returns-clause-prefix
unfolding shown_lines
returns-clause-prefix g c =
    rw (← three_parts)
    (stops_on _ _ _ _ _ _ (takes_on _ _ _ _ _ _ _ c.in_ok-put_events.ensures.whole c.in_ok-put_harts.ensures.whole)
    c.put_granules.ensures.prefix)

pub returns-clause-whole : goal.returns-clause-whole
unfolding shown_lines
returns-clause-whole g c =
    takes_on_ok _ _ _ _ _ _ _ _ _
    (three_parts (string_bytes c.args.out.now) (numbered event_line 0 c.args.view.entries.now)
    (numbered hart_lines 0 c.args.view.harts.now) (numbered granule_line 0 c.args.view.ram.now))
    (takes_on _ _ _ _ _ _ _ c.in_ok-put_events.ensures.whole c.in_ok-put_harts.ensures.whole) c.put_granules.ensures.whole
