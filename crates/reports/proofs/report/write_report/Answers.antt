use Rattle.std.proofs.Common.{◌∙◌}
use Rattle.sinks.proofs.SinkLemmas.{takes_none}
use Rattle.reports.proofs.ReportParts.{report_begins, report_stops, report_ends}
use Rattle.reports.proofs.report.write_report.Goals as goal

pub returns-in_err-out-clause-prefix : goal.returns-in_err-out-clause-prefix
returns-in_err-out-clause-prefix g c = (_, takes_none _ _)

pub returns-in_err-write_head-clause-prefix : goal.returns-in_err-write_head-clause-prefix
returns-in_err-write_head-clause-prefix g c = (_, takes_none _ _)

pub returns-in_err-put_parts-clause-prefix : goal.returns-in_err-put_parts-clause-prefix
returns-in_err-put_parts-clause-prefix g c =
    report_begins _ _ _ _ _ _ (rw c.in_ok-out.ensures.bytes at c.in_ok-write_head.ensures) c.put_parts.ensures.prefix

pub returns-in_err-writeln-clause-prefix : goal.returns-in_err-writeln-clause-prefix
returns-in_err-writeln-clause-prefix g c =
    report_begins _ _ _ _ _ _ (rw c.in_ok-out.ensures.bytes at c.in_ok-write_head.ensures)
    (_, c.in_ok-put_parts.ensures.whole)

pub returns-in_err-put_whole-clause-prefix : goal.returns-in_err-put_whole-clause-prefix
returns-in_err-put_whole-clause-prefix g c =
    report_stops _ _ _ _ _ _ _ _ _ (rw c.in_ok-out.ensures.bytes at c.in_ok-write_head.ensures)
    c.in_ok-put_parts.ensures.whole (c.as_bytes.ensures.value ∙ c.in_ok-writeln.ensures.bytes) c.put_whole.ensures.prefix

pub returns-clause-whole : goal.returns-clause-whole
returns-clause-whole g c =
    report_ends _ _ _ _ _ _ _ _ _ (rw c.in_ok-out.ensures.bytes at c.in_ok-write_head.ensures)
    c.in_ok-put_parts.ensures.whole (c.as_bytes.ensures.value ∙ c.in_ok-writeln.ensures.bytes) c.in_ok-put_whole.ensures.whole

pub returns-clause-prefix : goal.returns-clause-prefix
returns-clause-prefix g c =
    report_stops _ _ _ _ _ _ _ _ _ (rw c.in_ok-out.ensures.bytes at c.in_ok-write_head.ensures)
    c.in_ok-put_parts.ensures.whole (c.as_bytes.ensures.value ∙ c.in_ok-writeln.ensures.bytes) c.put_whole.ensures.prefix
