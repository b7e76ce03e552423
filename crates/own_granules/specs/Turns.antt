-- Turns of a machine by quiet steps that may touch memory: a step, and then the quiet steps of its
-- hart; or a sweep, and then those of all harts.
use Rattle.std.specs.Prelude.{◌≡◌, ℕ, zero, suc, ◌==◌, nat_lt, Bool, true, ◌&&◌, if◌then◌else◌}
use Rattle.std.specs.Prelude.{List, ◌++◌, length, slice_set, Option, Some, None}
use Rattle.cap_model.specs.values.CapValue.{CapValue}
use Rattle.cheri_model.specs.runs.Image.{ImageParts}
use Rattle.cheri_model.specs.runs.Machine.{MachineState, opening_state, is_running}
use Rattle.cheri_model.specs.runs.Machine.{state_after_step}
use Rattle.cheri_model.specs.steps.Hart.{HartState}
use Rattle.cheri_model.specs.steps.HartStep.{hart_step}
use Rattle.own_granules.specs.Granules.{are_kept, granules_of, is_private, is_quiet, is_unseen}
use Rattle.own_granules.specs.Granules.{respects_in}
use Rattle.own_granules.specs.Orders.{rest_labels, turn_labels}
use Rattle.own_granules.specs.Rests.{rest_first, together, passing_next}
use Rattle.own_granules.specs.Searches.{turn_of, AreMet}
use Rattle.schedules.specs.declared.ranges.SweepRange.{SweepRange}
use Rattle.schedules.specs.Schedules.{next}

-- A state of the image's machine: it has as many harts, and as large a memory, and there is nothing
-- for sweeps in granules that aren't shared.
unfoldable pub is_state_of : ImageParts → List SweepRange → (ℕ → Bool) → MachineState → Bool
is_state_of image sweeps shared state =
    length state.harts == length image.harts
    && (length state.memory == granules_of image
    && (nat_lt 0 (granules_of image) && are_kept sweeps shared 0 state.memory))

-- the state with each hart at its rest, one after another
abbrev pub rest_of : ImageParts → List SweepRange → (ℕ → Bool) → (HartState → HartState → Bool) → ℕ
    → MachineState → MachineState
rest_of image sweeps shared hides most =
    rest_first (state_after_step image) (is_quiet image sweeps shared hides) most
    (length image.harts)

-- where turns begin
abbrev pub start : ImageParts → List SweepRange → (ℕ → Bool) → (HartState → HartState → Bool) → ℕ
    → MachineState
start image sweeps shared hides most =
    rest_of image sweeps shared hides most (opening_state image)

-- where a label's turn leads
abbrev pub turn : ImageParts → List SweepRange → (ℕ → Bool) → (HartState → HartState → Bool) → ℕ
    → MachineState → ℕ → Option MachineState
turn image sweeps shared hides most =
    turn_of (next image sweeps) (state_after_step image) (is_quiet image sweeps shared hides) most
    (length image.harts)

-- All that a search by turns has met respects owners: the quiet steps of the opening state, each
-- step from a state that turns reach, and the quiet steps after it. In the opening state there is
-- nothing for sweeps in granules that aren't shared.
pub record AreOwned (image : ImageParts) (sweeps : List SweepRange) (shared : ℕ → Bool)
    (owner : ℕ → Option ℕ) (hides : HartState → HartState → Bool) (most : ℕ) : Type 0 where
  pub kept : are_kept sweeps shared 0 (opening_state image).memory ≡ true
  pub met :
      AreMet (next image sweeps) (state_after_step image) (is_quiet image sweeps shared hides)
      (respects_in image sweeps shared owner) most (length image.harts) (opening_state image)

-- the labels of turns from the opening state, with each of their steps
abbrev pub order_of_turns : ImageParts → List SweepRange → (ℕ → Bool)
    → (HartState → HartState → Bool) → ℕ → List ℕ → List ℕ
order_of_turns image sweeps shared hides most labels =
    rest_labels (state_after_step image) (is_quiet image sweeps shared hides) most
    (length image.harts) (opening_state image)
    ++ turn_labels (next image sweeps) (state_after_step image)
    (is_quiet image sweeps shared hides) most (length image.harts)
    (start image sweeps shared hides most) labels

-- a state that passes a test still does after a quiet step
abbrev pub KeepsPassing : ImageParts → List SweepRange → (ℕ → Bool)
    → (HartState → HartState → Bool) → (MachineState → Bool) → Type 0
KeepsPassing image sweeps shared hides passing =
    (s : MachineState) (l : ℕ) → is_quiet image sweeps shared hides s l ≡ true →
    passing s ≡ true → passing (state_after_step image s l) ≡ true

-- the steps of the machine that respect owners, and its sweeps
abbrev pub respecting_next : ImageParts → List SweepRange → (ℕ → Bool) → (ℕ → Option ℕ)
    → MachineState → ℕ → Option MachineState
respecting_next image sweeps shared owner =
    passing_next (next image sweeps) (respects_in image sweeps shared owner)

-- the state with each hart at its rest, by quiet steps that respect owners
abbrev pub respecting_rest : ImageParts → List SweepRange → (ℕ → Bool) → (ℕ → Option ℕ)
    → (HartState → HartState → Bool) → ℕ → MachineState → MachineState
respecting_rest image sweeps shared owner hides most =
    rest_first (state_after_step image)
    (together (is_quiet image sweeps shared hides) (respects_in image sweeps shared owner)) most
    (length image.harts)

-- the next step of this hart is quiet where memory is this
unfoldable pub is_quiet_with : ImageParts → List SweepRange → (ℕ → Bool)
    → (HartState → HartState → Bool) → HartState → List CapValue → Bool
is_quiet_with image sweeps shared hides hart memory =
    is_running hart.status && (is_private image shared hart
    && is_unseen sweeps hides hart (hart_step image.program hart memory).hart)

-- the hart and the memory to which at most so many quiet steps lead, if there are no more of them
unfoldable pub come_with : ImageParts → List SweepRange → (ℕ → Bool)
    → (HartState → HartState → Bool) → ℕ → HartState → List CapValue
    → Option (HartState × List CapValue)
come_with image sweeps shared hides zero hart memory =
    if is_quiet_with image sweeps shared hides hart memory then None else Some (hart, memory)
come_with image sweeps shared hides (suc k) hart memory =
    if is_quiet_with image sweeps shared hides hart memory
    then come_with image sweeps shared hides k (hart_step image.program hart memory).hart
    (hart_step image.program hart memory).memory
    else Some (hart, memory)

-- the state with another hart in this place, and another memory
abbrev pub placed : MachineState → ℕ → HartState × List CapValue → MachineState
placed state number held =
    record { harts = slice_set state.harts number held.0; memory = held.1 }
