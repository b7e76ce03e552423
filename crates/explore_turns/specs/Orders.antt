-- Turns as orders of operations: each step of a turn is one of the order.
use Rattle.std.specs.Prelude.{◌≡◌, ◌<◌, Bool, ℕ, suc, length, slice_get, List, [], ◌∷◌, ◌++◌}
use Rattle.std.specs.Prelude.{replicate, Option, Some, None}
use Rattle.cheri_model.specs.declared.instr.Instr.{Instr}
use Rattle.cheri_model.specs.declared.operation.Op.{Op}
use Rattle.cheri_model.specs.declared.operation.Op.TheVariants as operation
use Rattle.cheri_model.specs.runs.Image.{ImageParts}
use Rattle.cheri_model.specs.runs.Machine.{MachineState, opening_state, state_after_one}
use Rattle.cheri_model.specs.steps.Hart.{HartState}
use Rattle.explore_sights.specs.declared.sights.Sight.{Sight}
use Rattle.explore_sights.specs.Sights.{hides}
use Rattle.explore_turns.specs.declared.quiet.TheConstants.{MAX_QUIET_STEPS}
use Rattle.explore_turns.specs.QuietSteps.{come, steps_to_rest}
use Rattle.explore_turns.specs.Turns.{rest_by, start_by}
use Rattle.schedules.specs.declared.ranges.SweepRange.{SweepRange}

-- so many, where a hart comes to its rest, and none where it rests where it is
abbrev pub if_it_comes : Option HartState → ℕ → ℕ
if_it_comes None steps = 0
if_it_comes (Some there) steps = steps

-- how many quiet steps bring a hart to its rest
unfoldable pub quiet_count : List Instr → List SweepRange → (HartState → HartState → Bool) → ℕ
    → HartState → ℕ
quiet_count program sweeps hides most hart =
    if_it_comes (come program sweeps hides most hart)
    (steps_to_rest program sweeps hides most hart)

-- the quiet steps of harts numbered from this one on, hart by hart
unfoldable pub quiet_order : ImageParts → List SweepRange → Sight → ℕ → List HartState → List Op
quiet_order image sweeps sight first [] = []
quiet_order image sweeps sight first (hart ∷ harts) =
    replicate (quiet_count image.program sweeps (hides sight) MAX_QUIET_STEPS hart)
    (operation.Step first)
    ++ quiet_order image sweeps sight (suc first) harts

-- the operations of turns from a state: of each turn its operation, and then the quiet steps of all
-- harts, hart by hart
unfoldable pub turns_from : ImageParts → List SweepRange → Sight → MachineState → List Op → List Op
turns_from image sweeps sight state [] = []
turns_from image sweeps sight state (op ∷ ops) =
    op ∷ (quiet_order image sweeps sight 0 (state_after_one image state op).harts
    ++ turns_from image sweeps sight (rest_by image sweeps sight (state_after_one image state op))
    ops)

-- The operations of turns from the opening state, where these are the first ones of each turn:
-- before them are the quiet steps of that state.
unfoldable pub order_of_turns : ImageParts → List SweepRange → Sight → List Op → List Op
order_of_turns image sweeps sight ops =
    quiet_order image sweeps sight 0 (opening_state image).harts
    ++ turns_from image sweeps sight (start_by image sweeps sight) ops

-- each step is one of a hart of the image
abbrev pub AreOfHarts : ImageParts → List Op → Type 0
AreOfHarts image ops = (i hart : ℕ) → slice_get ops i ≡ Some (operation.Step hart) →
    hart < length image.harts
