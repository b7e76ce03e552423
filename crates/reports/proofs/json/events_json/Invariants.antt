-- The values so far are those of the beginning of the list.
use Rattle.std.proofs.Common.{◌≡◌, map, take}
use Rattle.serde_json.specs.View.{view}
use Rattle.report_lines.specs.EventData.{event_data}
use Rattle.reports.proofs.json.events_json.Given as goal

abbrev pub invariant-loop-event : goal.invariant-loop-event
invariant-loop-event l = map view l.values.items ≡ map event_data (take l.event-index l.events)
