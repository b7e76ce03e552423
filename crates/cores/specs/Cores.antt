-- What contracts see of a core, what it keeps, and what it answers.
use Rattle.std.specs.Prelude.{◌≡◌, ℕ, ◌≤◌, nat_lt, nat_le, not, ◌&&◌, if◌then◌else◌, Bool, true}
use Rattle.std.specs.Prelude.{List, [], ◌∷◌, ◌++◌, length, Option, Some, None, Result, Ok, Err}
use Rattle.cheri_model.specs.declared.operation.Op.{Op}
use Rattle.cheri_model.specs.declared.operation.Op.TheVariants as operation
use Rattle.cheri_model.specs.declared.operation.Event.{Event}
use Rattle.cheri_model.specs.declared.trace.Entry.{Entry}
use Rattle.cap_model.specs.values.CapValue.{CapValue}
use Rattle.cheri_model.specs.steps.Hart.{HartState}
use Rattle.cheri_model.specs.runs.Image.{ImageParts}
use Rattle.cheri_model.specs.runs.Sweeps.{is_range}
use Rattle.cheri_model.specs.runs.Machine.{MachineState, opening_state, is_running, hart_at}
use Rattle.cheri_model.specs.runs.Machine.{entry_of, state_after_one, event_of}
use Rattle.cheri_model.specs.runs.Replay.{IsReplay}
use Rattle.cheri_model.specs.runs.Authority.{IsLawfulState}
use Rattle.cores.specs.declared.cores.TheConstants.{GREATEST_TRACE_LIMIT}
use Rattle.cores.specs.declared.faults.StepFault.{StepFault}
use Rattle.cores.specs.declared.faults.StepFault.TheVariants.{NoSuchHart, TraceFull, HartStopped}
use Rattle.cores.specs.declared.faults.StepFault.TheVariants.{BadRange}

-- the stored image, the limit of the trace, the trace so far and the state now
pub record CoreParts : Type 0 where
  pub image : ImageParts
  pub limit : ℕ
  pub trace : List Event
  pub state : MachineState

-- those parts, of what a core is made of
abbrev pub parts_of_core : ImageParts → ℕ → List Event → List HartState → List CapValue
    → CoreParts
parts_of_core image limit trace harts memory =
    record {
      image = image;
      limit = limit;
      trace = trace;
      state = record { harts = harts; memory = memory };
    }

-- the core of an image before its first operation
abbrev pub opening_core : ImageParts → ℕ → CoreParts
opening_core image limit =
    record { image = image; limit = limit; trace = []; state = opening_state image }

-- the limits that a trace may have
abbrev pub is_limit : ℕ → Bool
is_limit limit = nat_le 1 limit && nat_le limit GREATEST_TRACE_LIMIT

-- The trace and the state are the replay of the trace from the stored image, the trace is no longer
-- than its limit, and the image's values are lawful.
pub record IsCore (core : CoreParts) : Type 0 where
  pub replay : IsReplay core.image core.trace core.state
  pub lawful : IsLawfulState (opening_state core.image)
  pub limited : is_limit core.limit ≡ true
  pub within : length core.trace ≤ core.limit

-- Why an operation is refused, if it is: the first of these that is so.
unfoldable pub refused : CoreParts → Op → Option StepFault
refused core (operation.Step hart) =
    if not (nat_lt hart (length core.state.harts)) then Some NoSuchHart
    else if not (nat_lt (length core.trace) core.limit) then Some TraceFull
    else if not (is_running (hart_at core.state hart).status) then Some HartStopped
    else None
refused core (operation.Sweep lo hi) =
    if not (is_range lo hi) then Some BadRange
    else if not (nat_lt (length core.trace) core.limit) then Some TraceFull
    else None

-- what an operation answers: its refusal, else the event that it adds to the trace
abbrev pub unless_refused : {A : Type 0} → Option StepFault → A → Result A StepFault
unless_refused None added = Ok added
unless_refused (Some fault) added = Err fault

unfoldable pub answered : CoreParts → Op → Result Event StepFault
answered core op = unless_refused (refused core op) (event_of core.image core.state op)

-- what a step of a hart answers: its refusal, else the entry of its event
unfoldable pub answered_step : CoreParts → ℕ → Result Entry StepFault
answered_step core hart =
    unless_refused (refused core (operation.Step hart)) (entry_of core.image core.state hart)

-- the core with one more operation
unfoldable pub core_after : CoreParts → Op → CoreParts
core_after core op = record core {
  trace = core.trace ++ event_of core.image core.state op ∷ [];
  state = state_after_one core.image core.state op;
}

-- The core after an operation, whatever it is: one more where it is not refused, else the same.
abbrev pub unless_kept : Option StepFault → CoreParts → CoreParts → CoreParts
unless_kept None core after = after
unless_kept (Some fault) core after = core

unfoldable pub applied : CoreParts → Op → CoreParts
applied core op = unless_kept (refused core op) core (core_after core op)
