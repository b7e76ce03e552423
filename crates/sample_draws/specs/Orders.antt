-- The order that is drawn for a run: operations are chosen, one after another, until no hart runs
-- or there are as many as a run may have.
use Rattle.std.specs.Prelude.{ℕ, ◌+◌, ◌==◌, zero, suc, Bool, not, List, [], ◌∷◌, length}
use Rattle.std.specs.Prelude.{if◌then◌else◌}
use Rattle.cap_model.specs.values.CapValue.{CapValue}
use Rattle.cheri_model.specs.declared.operation.Op.{Op}
use Rattle.cheri_model.specs.declared.operation.Op.TheVariants as operation
use Rattle.cheri_model.specs.steps.Hart.{HartState}
use Rattle.cheri_model.specs.runs.Image.{ImageParts}
use Rattle.cheri_model.specs.runs.Machine.{MachineState, opening_state, is_running, hart_at}
use Rattle.cheri_model.specs.runs.Machine.{state_after_one}
use Rattle.sample_draws.specs.Drawings.{DrawingParts}
use Rattle.sample_draws.specs.Cycles.{same_values}
use Rattle.sample_draws.specs.Draws.{DrawParts, draws_of_run, chosen, begun, done}

-- the harts that run, ascending
unfoldable pub running_from : ℕ → List HartState → List ℕ
running_from number [] = []
running_from number (hart ∷ harts) =
    if is_running hart.status then number ∷ running_from (number + 1) harts
    else running_from (number + 1) harts

unfoldable pub running_harts : MachineState → List ℕ
running_harts state = running_from 0 state.harts

-- memory was changed
unfoldable pub is_changed : List CapValue → List CapValue → Bool
is_changed before after = not (same_values before after)

-- what a step tells the priorities; a sweep tells them nothing more
unfoldable pub told : Op → MachineState → MachineState → DrawParts → DrawParts
told (operation.Step hart) before after draws =
    done (hart_at after hart) (is_changed before.memory after.memory)
    (begun hart (hart_at before hart) draws)
told (operation.Sweep lo hi) before after draws = draws

-- a run between two operations: what draws the next ones, and the machine
pub record Moment : Type 0 where
  pub draws : DrawParts
  pub state : MachineState

abbrev pub first_moment : ImageParts → DrawingParts → ℕ → Moment
first_moment image drawing run =
    record {
      draws = draws_of_run drawing (length image.harts) run;
      state = opening_state image;
    }

-- a moment after the operation that is chosen there
abbrev pub next_moment : ImageParts → MachineState → Op × DrawParts → Moment
next_moment image state choice =
    let after = state_after_one image state choice.0 in
    record { draws = told choice.0 state after choice.1; state = after }

-- the operations from a moment on, at most so many, and the moment after them
abbrev pub and_then : Op → List Op × Moment → List Op × Moment
and_then op rest = (op ∷ rest.0, rest.1)

-- no hart runs
abbrev pub is_over : MachineState → Bool
is_over state = length (running_harts state) == 0

unfoldable pub run_from : ImageParts → DrawingParts → ℕ → Moment → List Op × Moment
run_from image drawing zero moment = ([], moment)
run_from image drawing (suc left) moment =
    if is_over moment.state then ([], moment)
    else
    let choice = chosen drawing.sweeps (running_harts moment.state) moment.draws in
    and_then choice.0
    (run_from image drawing left (next_moment image moment.state choice))

-- the run of this number: its order, and the moment at which it is over
unfoldable pub drawn_run : ImageParts → DrawingParts → ℕ → List Op × Moment
drawn_run image drawing run =
    run_from image drawing drawing.length (first_moment image drawing run)

abbrev pub drawn_order : ImageParts → DrawingParts → ℕ → List Op
drawn_order image drawing run = (drawn_run image drawing run).0

-- the state that its order leaves
abbrev pub last_state : ImageParts → DrawingParts → ℕ → MachineState
last_state image drawing run = (drawn_run image drawing run).1.state
