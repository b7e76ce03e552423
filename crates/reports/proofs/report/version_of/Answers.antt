use Rattle.std.proofs.Common.{◌≡◌, ℕ, ◌<◌, ◌≤◌, List, length, take, get_or, true, false, refl, ap}
use Rattle.std.specs.List.{list_any}
use Rattle.std.proofs.lemmas.List.{take_all}
use Rattle.std.proofs.lemmas.List.Folds.{list_any_at}
use Rattle.cheri_model.specs.declared.operation.Event.{Event}
use Rattle.reports.specs.Report.{is_sweep, version_of}
use Rattle.reports.proofs.report.version_of.Goals as goal

version_found : (events : List Event) (place : ℕ) (d : Event) → place < length events
    → is_sweep (get_or events place d) ≡ true → 2 ≡ version_of events
unfolding version_of
version_found events place d room sweep = rw (list_any_at is_sweep events place d room sweep) refl

version_none : (events : List Event) (place : ℕ) → length events ≤ place
    → list_any is_sweep (take place events) ≡ false → 1 ≡ version_of events
unfolding version_of
version_none events place ended none =
    let all : list_any is_sweep events ≡ false = rw (take_all place events ended) at none in
    rw all refl

pub returns-in-Sweep : goal.returns-in-Sweep
returns-in-Sweep c = version_found c.args.events.now _ _ c.loop-event-test.true (ap is_sweep c.in-Sweep.is)

pub returns : goal.returns
returns c = version_none c.args.events.now _ c.loop-event-test.false c.loop-event.invariant
