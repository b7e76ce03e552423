-- What the reports of harts say.
use Rattle.std.specs.Prelude.{◌≡◌, ℕ, ◌<◌, ◌≤◌, Bool, true, false, List, map, All}
use Rattle.std.specs.List.{range_with_len}
use Rattle.cheri_model.specs.declared.operation.Event.{Event}
use Rattle.cheri_model.specs.runs.Replay.{step_count}
use Rattle.cheri_model.specs.declared.trace.Outcome.{Outcome}
use Rattle.cheri_model.specs.declared.trace.Outcome.TheVariants.{Done, Halt, Trap}
use Rattle.cores.specs.declared.faults.StepFault.{StepFault}
use Rattle.cores.specs.declared.faults.StepFault.TheVariants.{NoSuchHart, TraceFull, HartStopped}
use Rattle.cores.specs.declared.faults.StepFault.TheVariants.{NoMemory, BadRange}
use Rattle.harts.specs.declared.workers.Why.{Why}
use Rattle.harts.specs.declared.workers.Why.TheVariants.{Turns, Gate, Stopped, Refused}
use Rattle.harts.specs.declared.workers.HartReport.{HartReport}

-- whether a hart goes on after a step that ended so
abbrev pub goes_on : Outcome → Bool
goes_on Done = true
goes_on Halt = false
goes_on (Trap trap) = false

-- How many steps a refusal goes with. A hart that the first turn finds stopped took none; a full
-- trace or no memory may end any turn; and a hart that is there, and that steps, is refused for
-- nothing else.
abbrev pub IsRefusal : ℕ → ℕ → StepFault → Type 0
IsRefusal turns steps HartStopped = (steps ≡ 0) × (0 < turns)
IsRefusal turns steps TraceFull = steps < turns
IsRefusal turns steps NoMemory = steps < turns
IsRefusal turns steps NoSuchHart = ⊥
IsRefusal turns steps BadRange = ⊥

-- How many steps a reason goes with: all turns; fewer than all; or at least one.
abbrev pub IsReason : ℕ → ℕ → Why → Type 0
IsReason turns steps Turns = steps ≡ turns
IsReason turns steps Gate = steps < turns
IsReason turns steps Stopped = 0 < steps
IsReason turns steps (Refused fault) = IsRefusal turns steps fault

-- a report of a loop with this many turns
unfoldable pub KeepsTurns : ℕ → HartReport → Type 0
KeepsTurns turns report = (report.steps ≤ turns) × IsReason turns report.steps report.why

-- One report for each hart, in hart order, whose steps are the hart's own in the trace. Each hart
-- had this many turns.
pub record AreReports (turns : ℕ) (trace : List Event) (harts : ℕ) (reports : List HartReport)
    : Type 0 where
  pub in_order : map (λ report. report.hart) reports ≡ range_with_len 0 harts
  pub exact : All (λ report. report.steps ≡ step_count trace report.hart) reports
  pub within_turns : All (KeepsTurns turns) reports
