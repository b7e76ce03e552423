-- How the run of a seed and a number ends.
use Rattle.std.specs.Prelude.{◌≡◌, ℕ, List, true, if◌then◌else◌, length}
use Rattle.cheri_model.specs.runs.Image.{ImageParts}
use Rattle.cheri_model.specs.runs.Machine.{MachineState, is_running, hart_at}
use Rattle.cheri_model.specs.runs.Replay.{are_legal_steps, state_after_steps}
use Rattle.sample_draws.specs.Drawings.{DrawingParts}
use Rattle.sample_draws.specs.Orders.{is_over, drawn_order, last_state}
use Rattle.sample_steps.specs.Hangs.{is_hung}
use Rattle.sample_runs.specs.declared.runner.RunEnd.{RunEnd}
use Rattle.sample_runs.specs.declared.runner.RunEnd.TheVariants.{Ended, Hung, Cut}

-- no hart runs; or those that do go round for ever; or neither was seen
unfoldable pub end_in : ImageParts → MachineState → RunEnd
end_in image state =
    if is_over state then Ended else if is_hung image state then Hung else Cut

-- the end of the run with this number
unfoldable pub run_end : ImageParts → DrawingParts → ℕ → RunEnd
run_end image drawing run = end_in image (last_state image drawing run)

-- how many operations it takes
unfoldable pub run_length : ImageParts → DrawingParts → ℕ → ℕ
run_length image drawing run = length (drawn_order image drawing run)

-- no step of any order changes memory from this state on, and none stops a hart
pub record StaysHung (image : ImageParts) (state : MachineState) : Type 0 where
  pub memory : (steps : List ℕ) → are_legal_steps image state steps ≡ true →
      (state_after_steps image state steps).memory ≡ state.memory
  pub running : (steps : List ℕ) (hart : ℕ) → are_legal_steps image state steps ≡ true →
      is_running (hart_at (state_after_steps image state steps) hart).status
      ≡ is_running (hart_at state hart).status
