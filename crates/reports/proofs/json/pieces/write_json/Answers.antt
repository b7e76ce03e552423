use Rattle.std.proofs.Common.{◌≤◌, length, ◌∙◌, arith}
use Rattle.std.proofs.lemmas.Grind.{common_steps}
use Rattle.sinks.proofs.SinkLemmas.{takes_none}
use Rattle.reports.proofs.JsonTexts.{json_report_text}
use Rattle.reports.proofs.JsonParts.{parts_begin, parts_stop, parts_end}
use Rattle.reports.proofs.json.pieces.write_json.Goals as goal

pub returns-in_err-out-clause-prefix : goal.returns-in_err-out-clause-prefix
returns-in_err-out-clause-prefix g c = (_, takes_none _ _)

pub returns-in_err-put_parts-clause-prefix : goal.returns-in_err-put_parts-clause-prefix
returns-in_err-put_parts-clause-prefix g c =
    parts_begin _ _ _ _ _ _ (json_report_text _ _ _) c.in_ok-out.ensures.bytes
    c.put_parts.ensures.prefix

pub returns-in_err-write_end-clause-prefix : goal.returns-in_err-write_end-clause-prefix
returns-in_err-write_end-clause-prefix g c =
    parts_begin _ _ _ _ _ _ (json_report_text _ _ _) c.in_ok-out.ensures.bytes
    (_, c.in_ok-put_parts.ensures.whole)

pub returns-in_err-put_whole-clause-prefix : goal.returns-in_err-put_whole-clause-prefix
returns-in_err-put_whole-clause-prefix g c =
    parts_stop _ _ _ _ _ _ _ _ _ (json_report_text _ _ _) c.in_ok-out.ensures.bytes
    c.in_ok-put_parts.ensures.whole (c.as_bytes.ensures.value ∙ c.in_ok-write_end.ensures) c.put_whole.ensures.prefix

pub returns-clause-whole : goal.returns-clause-whole
returns-clause-whole g c =
    parts_end _ _ _ _ _ _ _ _ _ (json_report_text _ _ _) c.in_ok-out.ensures.bytes
    c.in_ok-put_parts.ensures.whole (c.as_bytes.ensures.value ∙ c.in_ok-write_end.ensures) c.in_ok-put_whole.ensures.whole

pub returns-clause-prefix : goal.returns-clause-prefix
returns-clause-prefix g c =
    parts_stop _ _ _ _ _ _ _ _ _ (json_report_text _ _ _) c.in_ok-out.ensures.bytes
    c.in_ok-put_parts.ensures.whole (c.as_bytes.ensures.value ∙ c.in_ok-write_end.ensures) c.put_whole.ensures.prefix
