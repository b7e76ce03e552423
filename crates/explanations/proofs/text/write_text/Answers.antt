use Rattle.std.proofs.Common.{◌≡◌, ℕ, List, ◌++◌, length, codes, ap, ◌∙◌}
use Rattle.cheri_model.specs.declared.operation.Event.{Event}
use Rattle.cheri_model.specs.runs.Image.{ImageParts}
use Rattle.cheri_model.specs.runs.Replay.{operations_of}
use Rattle.cheri_model.proofs.Runs.Replays.{length-operations_of}
use Rattle.report_lines.specs.Texts.{line}
use Rattle.sinks.proofs.SinkLemmas.{takes_none}
use Rattle.explanations.specs.declared.selection.Selection.{Selection}
use Rattle.explanations.specs.InstructionLines.{LineParts}
use Rattle.explanations.specs.Explanation.{explanation, head_lines, events_lines}
use Rattle.explanations.proofs.Parts.{parts_begin, parts_stop, parts_end}
use Rattle.explanations.proofs.text.write_text.Goals as goal

parts : (image : ImageParts) (lines : LineParts) (selection : Selection) (trace : List Event)
    → explanation image lines selection (operations_of trace)
    ≡ head_lines image (length trace) ++ (events_lines image lines selection (operations_of trace) ++ line (codes "end"))
unfolding explanation
parts image lines selection trace =
    ap (λ n. head_lines image n ++ (events_lines image lines selection (operations_of trace) ++ line (codes "end"))) (length-operations_of trace)

pub returns-in_err-out-clause-prefix : goal.returns-in_err-out-clause-prefix
returns-in_err-out-clause-prefix g c = (_, takes_none _ _)

pub returns-in_err-write_head-clause-prefix : goal.returns-in_err-write_head-clause-prefix
returns-in_err-write_head-clause-prefix g c = (_, takes_none _ _)

pub returns-in_err-put_events-clause-prefix : goal.returns-in_err-put_events-clause-prefix
returns-in_err-put_events-clause-prefix g c =
    parts_begin _ _ _ _ _ _ _ (parts _ _ _ _) (rw (c.in_ok-out.ensures.bytes, c.view-view.ensures.entries, c.view-view.ensures.image) at c.in_ok-write_head.ensures) c.put_events.ensures.prefix

pub returns-in_err-push_str-clause-prefix : goal.returns-in_err-push_str-clause-prefix
returns-in_err-push_str-clause-prefix g c =
    parts_begin _ _ _ _ _ _ _ (parts _ _ _ _) (rw (c.in_ok-out.ensures.bytes, c.view-view.ensures.entries, c.view-view.ensures.image) at c.in_ok-write_head.ensures) (_, c.in_ok-put_events.ensures.whole)

pub returns-in_err-put_whole-clause-prefix : goal.returns-in_err-put_whole-clause-prefix
returns-in_err-put_whole-clause-prefix g c =
    parts_stop _ _ _ _ _ _ _ _ _ _ (parts _ _ _ _) (rw (c.in_ok-out.ensures.bytes, c.view-view.ensures.entries, c.view-view.ensures.image) at c.in_ok-write_head.ensures)
    c.in_ok-put_events.ensures.whole (c.as_bytes.ensures.value ∙ c.in_ok-push_str.ensures.bytes) c.put_whole.ensures.prefix

pub returns-clause-whole : goal.returns-clause-whole
returns-clause-whole g c =
    parts_end _ _ _ _ _ _ _ _ _ _ (parts _ _ _ _) (rw (c.in_ok-out.ensures.bytes, c.view-view.ensures.entries, c.view-view.ensures.image) at c.in_ok-write_head.ensures)
    c.in_ok-put_events.ensures.whole (c.as_bytes.ensures.value ∙ c.in_ok-push_str.ensures.bytes) c.in_ok-put_whole.ensures.whole

pub returns-clause-prefix : goal.returns-clause-prefix
returns-clause-prefix g c =
    parts_stop _ _ _ _ _ _ _ _ _ _ (parts _ _ _ _) (rw (c.in_ok-out.ensures.bytes, c.view-view.ensures.entries, c.view-view.ensures.image) at c.in_ok-write_head.ensures)
    c.in_ok-put_events.ensures.whole (c.as_bytes.ensures.value ∙ c.in_ok-push_str.ensures.bytes) c.put_whole.ensures.prefix
