-- No event so far is a sweep.
use Rattle.std.proofs.Common.{◌≡◌, take, false}
use Rattle.std.specs.List.{list_any}
use Rattle.reports.specs.Report.{is_sweep}
use Rattle.reports.proofs.report.version_of.Given as goal

abbrev pub invariant-loop-event : goal.invariant-loop-event
invariant-loop-event l = list_any is_sweep (take l.event-index l.events) ≡ false
