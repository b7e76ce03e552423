-- Names for `unfolding(..)` that open what their own line names.
use Rattle.std.specs.Prelude.{ℕ, List}
use Rattle.cheri_model.specs.declared.operation.Event.{Event}
use Rattle.serde_json.specs.Data.{Members}
use Rattle.report_lines.specs.EventData.{event_members, image_data}
use Rattle.report_lines.specs.EventText.{event_text}
use Rattle.report_lines.specs.Lines.{image_line, count_line, event_line, status_line, pcc_line}
use Rattle.report_lines.specs.Lines.{register_line, granule_line}
use Rattle.report_lines.proofs.DoneSteps.{byte_length, number_length}

unfoldable pub event_texts : ℕ → Event → List ℕ
unfolding event_text
event_texts number event = event_text number event

unfoldable pub lines : ℕ → List ℕ
unfolding image_line count_line event_line status_line pcc_line register_line granule_line
lines count = count_line count

unfoldable pub events : Event → Members
unfolding event_members image_data
events event = event_members event

-- how many digits a hart and a number of a short line have
pub ruleset lengths = (byte_length, number_length)
