-- The abstract machine: the state of all harts and the memory, and its operations.
use Rattle.std.specs.Prelude.{ℕ, ◌+◌, Bool, true, false, ◌&&◌, nat_lt, List, [], length, map}
use Rattle.std.specs.Prelude.{sum_by, slice_index_or, slice_set}
use Rattle.cheri_model.specs.declared.operation.Op.{Op}
use Rattle.cheri_model.specs.declared.operation.Op.TheVariants as operation
use Rattle.cheri_model.specs.declared.operation.Event.{Event}
use Rattle.cheri_model.specs.declared.operation.Event.TheVariants as event
use Rattle.cheri_model.specs.declared.trace.Entry.{Entry}
use Rattle.cheri_model.specs.declared.trace.Status.{Status}
use Rattle.cheri_model.specs.declared.trace.Status.TheVariants.{Running, Halted, Trapped}
use Rattle.cap_model.specs.values.CapValue.{CapValue}
use Rattle.cap_model.specs.results.Addresses.{address_of}
use Rattle.cheri_model.specs.steps.Hart.{HartState, null}
use Rattle.cheri_model.specs.steps.HartStep.{Stepped, hart_step}
use Rattle.cheri_model.specs.runs.Image.{ImageParts, opening_hart, opening_memory}
use Rattle.cheri_model.specs.runs.Sweeps.{is_range, swept_hart, swept_memory, cleared_in_hart}
use Rattle.cheri_model.specs.runs.Sweeps.{cleared_in_memory}

pub record MachineState : Type 0 where
  pub harts : List HartState
  pub memory : List CapValue

unfoldable pub opening_state : ImageParts → MachineState
opening_state image =
    record {
      harts = map opening_hart image.harts;
      memory = opening_memory image.ram image.granules;
    }

abbrev pub is_running : Status → Bool
is_running Running = true
is_running Halted = false
is_running (Trapped trap) = false

-- a hart that no machine has, which fills the places past the end
abbrev pub no_hart : HartState
no_hart = record { regs = []; pcc = null; status = Halted }

unfoldable pub hart_at : MachineState → ℕ → HartState
hart_at state number = slice_index_or state.harts number no_hart

-- whether an operation may be taken: there is this hart, and it runs; or the range can be swept
unfoldable pub may_take : MachineState → Op → Bool
may_take state (operation.Step number) =
    nat_lt number (length state.harts) && is_running (hart_at state number).status
may_take state (operation.Sweep lo hi) = is_range lo hi

-- what the hart's step leaves
abbrev pub stepped : ImageParts → MachineState → ℕ → Stepped
stepped image state number = hart_step image.program (hart_at state number) state.memory

unfoldable pub state_after_step : ImageParts → MachineState → ℕ → MachineState
state_after_step image state number =
    let after = stepped image state number in
    record { harts = slice_set state.harts number after.hart; memory = after.memory }

-- the entry of a step: the hart, PCC's address before, and the outcome
unfoldable pub entry_of : ImageParts → MachineState → ℕ → Entry
entry_of image state number =
    record {
      hart = number;
      pc = address_of (hart_at state number).pcc;
      outcome = (stepped image state number).outcome;
    }

-- what a sweep leaves of every hart, stopped ones too, and of memory
unfoldable pub swept_state : ℕ → ℕ → MachineState → MachineState
swept_state lo hi state =
    record { harts = map (swept_hart lo hi) state.harts; memory = swept_memory lo hi state.memory }

-- how many tags it clears: in registers, in PCCs and in granules
unfoldable pub cleared : ℕ → ℕ → MachineState → ℕ
cleared lo hi state =
    sum_by (cleared_in_hart lo hi) state.harts + cleared_in_memory lo hi state.memory

-- the state after an operation
unfoldable pub state_after_one : ImageParts → MachineState → Op → MachineState
state_after_one image state (operation.Step number) = state_after_step image state number
state_after_one image state (operation.Sweep lo hi) = swept_state lo hi state

-- the event that an operation adds to the trace
unfoldable pub event_of : ImageParts → MachineState → Op → Event
event_of image state (operation.Step number) = event.Step (entry_of image state number)
event_of image state (operation.Sweep lo hi) = event.Sweep (cleared lo hi state) lo hi
