-- Replay: an order of operations run from an image, one after another. These equations are what the
-- machine is compared with at every moment.
use Rattle.std.specs.Prelude.{◌≡◌, ℕ, ◌==◌, Bool, true, false, ◌&&◌, List, [], ◌∷◌, ◌++◌, map, fold}
use Rattle.std.specs.Prelude.{count_by, IsTrue, length, nat_lt}
use Rattle.cheri_model.specs.declared.operation.Op.{Op}
use Rattle.cheri_model.specs.declared.operation.Op.TheVariants as operation
use Rattle.cheri_model.specs.declared.operation.Event.{Event}
use Rattle.cheri_model.specs.declared.operation.Event.TheVariants as event
use Rattle.cheri_model.specs.declared.trace.Entry.{Entry}
use Rattle.cheri_model.specs.runs.Image.{ImageParts}
use Rattle.cheri_model.specs.runs.Machine.{MachineState, opening_state, may_take, state_after_step}
use Rattle.cheri_model.specs.runs.Machine.{entry_of, state_after_one, event_of, hart_at, is_running}

-- the state after an order, run from this one
unfoldable pub state_after : ImageParts → MachineState → List Op → MachineState
state_after image state [] = state
state_after image state (op ∷ order) = state_after image (state_after_one image state op) order

-- the events that an order adds to the trace
unfoldable pub events_of : ImageParts → MachineState → List Op → List Event
events_of image state [] = []
events_of image state (op ∷ order) =
    event_of image state op ∷ events_of image (state_after_one image state op) order

-- an order is legal where each operation may be taken in its turn
unfoldable pub is_legal : ImageParts → MachineState → List Op → Bool
is_legal image state [] = true
is_legal image state (op ∷ order) =
    may_take state op && is_legal image (state_after_one image state op) order

-- the replay of an order from the image's opening state: the state it leaves, and its events
unfoldable pub replayed_state : ImageParts → List Op → MachineState
replayed_state image order = state_after image (opening_state image) order

unfoldable pub replayed_events : ImageParts → List Op → List Event
replayed_events image order = events_of image (opening_state image) order

-- Steps alone, of harts with these numbers: the state that they leave, and their entries.
unfoldable pub state_after_steps : ImageParts → MachineState → List ℕ → MachineState
state_after_steps image state numbers = fold (state_after_step image) state numbers

-- steps alone are legal where each hart is there and runs in its turn
unfoldable pub are_legal_steps : ImageParts → MachineState → List ℕ → Bool
are_legal_steps image state [] = true
are_legal_steps image state (number ∷ numbers) =
    (nat_lt number (length state.harts) && is_running (hart_at state number).status)
    && are_legal_steps image (state_after_step image state number) numbers

unfoldable pub entries_of_steps : ImageParts → MachineState → List ℕ → List Entry
entries_of_steps image state [] = []
entries_of_steps image state (number ∷ numbers) =
    entry_of image state number
    ∷ entries_of_steps image (state_after_step image state number) numbers

-- the operation that an event records: a step of its hart, or a sweep of its range
abbrev pub operation_of : Event → Op
operation_of (event.Step entry) = operation.Step entry.hart
operation_of (event.Sweep count lo hi) = operation.Sweep lo hi

-- the operations of a trace
unfoldable pub operations_of : List Event → List Op
operations_of trace = map operation_of trace

-- the step count of a hart: how many events of a trace are its own steps
abbrev pub is_step_of : ℕ → Event → Bool
is_step_of hart (event.Step entry) = entry.hart == hart
is_step_of hart (event.Sweep count lo hi) = false

unfoldable pub step_count : List Event → ℕ → ℕ
step_count trace hart = count_by (is_step_of hart) trace

-- A trace and a state are the replay of the trace's own operations, which are a legal order.
pub record IsReplay (image : ImageParts) (trace : List Event) (now : MachineState) : Type 0 where
  pub state : now ≡ replayed_state image (operations_of trace)
  pub events : trace ≡ replayed_events image (operations_of trace)
  pub legal : IsTrue (is_legal image (opening_state image) (operations_of trace))

-- one list of events, or of operations, is a prefix of another: the other is this one followed
-- by some list
abbrev pub IsPrefixOf : {A : Type 0} → List A → List A → Type 0
IsPrefixOf {A} before after = (later : List A) × (after ≡ before ++ later)
