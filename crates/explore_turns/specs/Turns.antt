-- Turns: an operation, and then the quiet steps of the harts.
use Rattle.std.specs.Prelude.{◌≡◌, ℕ, ◌==◌, Bool, true, List, length, map, Option, Some}
use Rattle.std.specs.Prelude.{slice_get, slice_set}
use Rattle.cheri_model.specs.runs.Image.{ImageParts}
use Rattle.cheri_model.specs.runs.Machine.{MachineState, opening_state}
use Rattle.cheri_model.specs.steps.Hart.{HartState}
use Rattle.explore_sights.specs.declared.sights.Sight.{Sight}
use Rattle.explore_sights.specs.Sights.{hides}
use Rattle.explore_turns.specs.declared.quiet.TheConstants.{MAX_QUIET_STEPS}
use Rattle.explore_turns.specs.QuietSteps.{rest}
use Rattle.graph_merging.specs.Merging.{merged}
use Rattle.schedules.specs.declared.ranges.SweepRange.{SweepRange}
use Rattle.schedules.specs.Schedules.{next}

-- the state with each hart at its rest
unfoldable pub rest_of : ImageParts → List SweepRange → (HartState → HartState → Bool) → ℕ
    → MachineState → MachineState
rest_of image sweeps hides most state =
    record { harts = map (rest image.program sweeps hides most) state.harts; memory = state.memory }

-- where a label's turn leads
abbrev pub turn : ImageParts → List SweepRange → (HartState → HartState → Bool) → ℕ → MachineState
    → ℕ → Option MachineState
turn image sweeps hides most = merged (next image sweeps) (rest_of image sweeps hides most)

-- a state of the image's machine: it has as many harts
abbrev pub has_harts_of : ImageParts → MachineState → Bool
has_harts_of image state = length state.harts == length image.harts

-- the hart at its rest, by what a question sees
abbrev pub resting : ImageParts → List SweepRange → Sight → HartState → HartState
resting image sweeps sight = rest image.program sweeps (hides sight) MAX_QUIET_STEPS

-- the state with each hart at its rest, by what a question sees
abbrev pub rest_by : ImageParts → List SweepRange → Sight → MachineState → MachineState
rest_by image sweeps sight = rest_of image sweeps (hides sight) MAX_QUIET_STEPS

-- where a label's turn leads, by what a question sees
abbrev pub turn_by : ImageParts → List SweepRange → Sight → MachineState → ℕ → Option MachineState
turn_by image sweeps sight = turn image sweeps (hides sight) MAX_QUIET_STEPS

-- where turns begin: the opening state with each hart at its rest
abbrev pub start_by : ImageParts → List SweepRange → Sight → MachineState
start_by image sweeps sight = rest_by image sweeps sight (opening_state image)

-- a state that passes a test still does after a step of a hart that isn't seen
abbrev pub KeepsPassing : (HartState → HartState → Bool) → (MachineState → Bool) → Type 0
KeepsPassing hides passing =
    (s : MachineState) (l : ℕ) (before after : HartState) → slice_get s.harts l ≡ Some before →
    hides before after ≡ true → passing s ≡ true →
    passing (record { harts = slice_set s.harts l after; memory = s.memory }) ≡ true
