-- What a handle has, and what calls answer of it.
use Rattle.std.specs.Prelude.{ℕ, false, ◌/◌, ◌%◌, ◌^◌, nat_lt, not, if◌then◌else◌, List, length}
use Rattle.std.specs.Prelude.{Option, Some, None, Result, Ok, Err, option_map, slice_get}
use Rattle.cap_model.specs.values.CapValue.{CapValue, bits_of, tag_of}
use Rattle.cheri_model.specs.declared.operation.Op.{Op}
use Rattle.cheri_model.specs.declared.operation.Event.{Event}
use Rattle.cheri_model.specs.declared.operation.Event.TheVariants as event
use Rattle.cheri_model.specs.declared.trace.Outcome.{Outcome}
use Rattle.cheri_model.specs.declared.trace.Outcome.TheVariants as outcome
use Rattle.cheri_model.specs.declared.trace.Status.{Status}
use Rattle.cheri_model.specs.declared.trace.Status.TheVariants as hart_status
use Rattle.cheri_model.specs.runs.Machine.{hart_at}
use Rattle.cheri_model.specs.steps.Hart.{register}
use Rattle.cheri_model.specs.steps.Memory.{granule_at}
use Rattle.cores.specs.Cores.{CoreParts, answered}
use Rattle.cores.specs.declared.faults.StepFault.{StepFault}
use Rattle.cores.specs.declared.faults.StepFault.TheVariants as step
use Rattle.cheri_machine.specs.declared.handle.CheriMachine.{CheriMachine}
use Rattle.cheri_machine.specs.declared.status.TheConstants as status
use Rattle.cheri_machine.specs.declared.structs.CheriEvent.{CheriEvent}
use Rattle.cheri_machine.specs.declared.structs.CheriHart.{CheriHart}
use Rattle.cheri_machine.specs.declared.structs.CheriSizes.{CheriSizes}
use Rattle.cheri_machine.specs.declared.structs.CheriValue.{CheriValue}

-- the core that a handle has: none where it is closed
abbrev pub core_of : CheriMachine → Option CoreParts
core_of handle = option_map (λ machine. machine.core) handle.held.machine

-- the listing that opened it
abbrev pub listing_of : CheriMachine → Option (List ℕ)
listing_of handle = option_map (λ machine. machine.listing.items) handle.held.machine

-- an answer without an event
abbrev pub no_event : ℕ → CheriEvent
no_event number =
    record {
      status = number;
      cleared = 0;
      kind = 0;
      hart = 0;
      outcome = 0;
      cause = 0;
      reg = 0;
      pc = 0;
      lo = 0;
      hi = 0;
      hi_high = 0;
    }

-- how a step ended: whether it went on, halted or trapped, and the trap's cause and register
abbrev pub outcome_number : Outcome → ℕ
outcome_number outcome.Done = 0
outcome_number outcome.Halt = 1
outcome_number (outcome.Trap trap) = 2

abbrev pub cause_of : Outcome → ℕ
cause_of (outcome.Trap trap) = trap.cause
cause_of _ = 0

abbrev pub reg_of : Outcome → ℕ
reg_of (outcome.Trap trap) = trap.reg
reg_of _ = 0

-- an event
abbrev pub event_struct : Event → CheriEvent
event_struct (event.Step entry) =
    record (no_event status.DONE) {
      kind = 1;
      hart = entry.hart;
      outcome = outcome_number entry.outcome;
      cause = cause_of entry.outcome;
      reg = reg_of entry.outcome;
      pc = entry.pc;
    }
event_struct (event.Sweep cleared lo hi) =
    record (no_event status.DONE) {
      kind = 2;
      cleared = cleared;
      lo = lo;
      hi = hi % 2 ^ 64;
      hi_high = hi / 2 ^ 64;
    }

-- the status of a refused operation
abbrev pub status_of_fault : StepFault → ℕ
status_of_fault step.NoSuchHart = status.NO_SUCH_HART
status_of_fault step.TraceFull = status.TRACE_FULL
status_of_fault step.HartStopped = status.HART_STOPPED
status_of_fault step.NoMemory = status.NO_MEMORY
status_of_fault step.BadRange = status.BAD_RANGE

-- what an operation answers: the event that it adds to the trace, or why it is refused
abbrev pub taken : Result Event StepFault → CheriEvent
taken (Ok event) = event_struct event
taken (Err fault) = no_event (status_of_fault fault)

abbrev pub taken_by : Option CoreParts → Op → CheriEvent
taken_by None op = no_event status.CLOSED
taken_by (Some core) op = taken (answered core op)

-- the event of this number, counted from 0
abbrev pub event_or_none : Option Event → CheriEvent
event_or_none None = no_event status.NO_SUCH_EVENT
event_or_none (Some event) = event_struct event

abbrev pub event_in : Option CoreParts → ℕ → CheriEvent
event_in None number = no_event status.CLOSED
event_in (Some core) number = event_or_none (slice_get core.trace number)

-- values, and an answer without one
abbrev pub no_value : ℕ → CheriValue
no_value number = record { addr = 0; upper = 0; tag = false; status = number }

abbrev pub value_struct : CapValue → CheriValue
value_struct v =
    record {
      addr = bits_of v % 2 ^ 64;
      upper = bits_of v / 2 ^ 64;
      tag = tag_of v;
      status = status.DONE;
    }

-- a register: the hart is looked for first
abbrev pub register_in : Option CoreParts → ℕ → ℕ → CheriValue
register_in None hart reg = no_value status.CLOSED
register_in (Some core) hart reg =
    if not (nat_lt hart (length core.state.harts)) then no_value status.NO_SUCH_HART
    else if not (nat_lt reg 32) then no_value status.NO_SUCH_REGISTER
    else value_struct (register (hart_at core.state hart) reg)

-- PCC of a hart
abbrev pub pcc_in : Option CoreParts → ℕ → CheriValue
pcc_in None hart = no_value status.CLOSED
pcc_in (Some core) hart =
    if not (nat_lt hart (length core.state.harts)) then no_value status.NO_SUCH_HART
    else value_struct (hart_at core.state hart).pcc

-- a granule, by its number from 0 on
abbrev pub granule_in : Option CoreParts → ℕ → CheriValue
granule_in None number = no_value status.CLOSED
granule_in (Some core) number =
    if not (nat_lt number (length core.state.memory)) then no_value status.NO_SUCH_GRANULE
    else value_struct (granule_at core.state.memory number)

-- whether a hart runs
abbrev pub hart_struct : Status → CheriHart
hart_struct hart_status.Running = record { status = status.DONE; state = 0; cause = 0; reg = 0 }
hart_struct hart_status.Halted = record { status = status.DONE; state = 1; cause = 0; reg = 0 }
hart_struct (hart_status.Trapped trap) =
    record { status = status.DONE; state = 2; cause = trap.cause; reg = trap.reg }

abbrev pub no_hart_struct : ℕ → CheriHart
no_hart_struct number = record { status = number; state = 0; cause = 0; reg = 0 }

abbrev pub hart_told : Option CoreParts → ℕ → CheriHart
hart_told None hart = no_hart_struct status.CLOSED
hart_told (Some core) hart =
    if not (nat_lt hart (length core.state.harts)) then no_hart_struct status.NO_SUCH_HART
    else hart_struct (hart_at core.state hart).status

-- how much there is
abbrev pub sizes_of : Option CoreParts → CheriSizes
sizes_of None = record { status = status.CLOSED; harts = 0; granules = 0; events = 0; limit = 0 }
sizes_of (Some core) =
    record {
      status = status.DONE;
      harts = length core.state.harts;
      granules = length core.state.memory;
      events = length core.trace;
      limit = core.limit;
    }
