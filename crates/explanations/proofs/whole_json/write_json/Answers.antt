use Rattle.std.proofs.Common.{◌≡◌, ℕ, List, ◌++◌, length, false, ap, ◌∙◌}
use Rattle.cheri_model.specs.declared.operation.Event.{Event}
use Rattle.cheri_model.specs.runs.Image.{ImageParts}
use Rattle.cheri_model.specs.runs.Replay.{operations_of}
use Rattle.cheri_model.proofs.Runs.Replays.{length-operations_of}
use Rattle.sinks.proofs.SinkLemmas.{takes_none}
use Rattle.explanations.specs.declared.selection.Selection.{Selection}
use Rattle.explanations.specs.InstructionLines.{LineParts}
use Rattle.explanations.specs.Explanation.{explained_events, explanation_json}
use Rattle.explanations.specs.JsonText.{json_head, events_from, json_end}
use Rattle.explanations.proofs.JsonParts.{json_parts}
use Rattle.explanations.proofs.Parts.{parts_begin, parts_stop, parts_end}
use Rattle.explanations.proofs.whole_json.write_json.Goals as goal

parts : (image : ImageParts) (lines : LineParts) (selection : Selection) (trace : List Event)
    → explanation_json image lines selection (operations_of trace)
    ≡ json_head (length trace) ++ (events_from lines selection false 0 (explained_events image (operations_of trace)) ++ json_end image)
parts image lines selection trace =
    json_parts image lines selection (operations_of trace)
    ∙ ap (λ n. json_head n ++ (events_from lines selection false 0 (explained_events image (operations_of trace)) ++ json_end image)) (length-operations_of trace)

pub returns-in_err-out-clause-prefix : goal.returns-in_err-out-clause-prefix
returns-in_err-out-clause-prefix g c = (_, takes_none _ _)

pub returns-in_err-write_head-clause-prefix : goal.returns-in_err-write_head-clause-prefix
returns-in_err-write_head-clause-prefix g c = (_, takes_none _ _)

pub returns-in_err-put_events-clause-prefix : goal.returns-in_err-put_events-clause-prefix
returns-in_err-put_events-clause-prefix g c =
    parts_begin _ _ _ _ _ _ _ (parts _ _ _ _) (rw (c.in_ok-out.ensures.bytes, c.view-view.ensures.entries) at c.in_ok-write_head.ensures) c.put_events.ensures.prefix

pub returns-in_err-write_end-clause-prefix : goal.returns-in_err-write_end-clause-prefix
returns-in_err-write_end-clause-prefix g c =
    parts_begin _ _ _ _ _ _ _ (parts _ _ _ _) (rw (c.in_ok-out.ensures.bytes, c.view-view.ensures.entries) at c.in_ok-write_head.ensures) (_, c.in_ok-put_events.ensures.whole)

pub returns-in_err-put_whole-clause-prefix : goal.returns-in_err-put_whole-clause-prefix
returns-in_err-put_whole-clause-prefix g c =
    parts_stop _ _ _ _ _ _ _ _ _ _ (parts _ _ _ _) (rw (c.in_ok-out.ensures.bytes, c.view-view.ensures.entries) at c.in_ok-write_head.ensures)
    c.in_ok-put_events.ensures.whole (c.as_bytes.ensures.value ∙ (rw c.view-view.ensures.image at c.in_ok-write_end.ensures)) c.put_whole.ensures.prefix

pub returns-clause-whole : goal.returns-clause-whole
returns-clause-whole g c =
    parts_end _ _ _ _ _ _ _ _ _ _ (parts _ _ _ _) (rw (c.in_ok-out.ensures.bytes, c.view-view.ensures.entries) at c.in_ok-write_head.ensures)
    c.in_ok-put_events.ensures.whole (c.as_bytes.ensures.value ∙ (rw c.view-view.ensures.image at c.in_ok-write_end.ensures)) c.in_ok-put_whole.ensures.whole

pub returns-clause-prefix : goal.returns-clause-prefix
returns-clause-prefix g c =
    parts_stop _ _ _ _ _ _ _ _ _ _ (parts _ _ _ _) (rw (c.in_ok-out.ensures.bytes, c.view-view.ensures.entries) at c.in_ok-write_head.ensures)
    c.in_ok-put_events.ensures.whole (c.as_bytes.ensures.value ∙ (rw c.view-view.ensures.image at c.in_ok-write_end.ensures)) c.put_whole.ensures.prefix
