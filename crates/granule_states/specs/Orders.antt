-- Orders of steps, as the machine takes them: turns with each of their steps.
use Rattle.std.specs.Prelude.{◌≡◌, ℕ, ◌<◌, List, [], length, map, slice_get, true, Some, unwrap_or}
use Rattle.cheri_model.specs.declared.operation.Op.{Op}
use Rattle.cheri_model.specs.declared.operation.Op.TheVariants as operation
use Rattle.cheri_model.specs.runs.Machine.{MachineState, opening_state}
use Rattle.cheri_model.specs.runs.Replay.{is_legal, replayed_state}
use Rattle.explore_sights.specs.Sights.{hides}
use Rattle.explore_turns.specs.declared.quiet.TheConstants.{MAX_QUIET_STEPS}
use Rattle.granule_states.specs.Graphs.{GranuleParts, is_shared, quiet_in, start_in, step_in}
use Rattle.granule_states.specs.Graphs.{turn_in}
use Rattle.graph_search.specs.Walks.{IsWitness}
use Rattle.own_granules.specs.Orders.{rest_labels, turn_labels, way_labels}
use Rattle.own_granules.specs.Rests.{rest_first}
use Rattle.own_granules.specs.Turns.{order_of_turns}
use Rattle.schedules.specs.Schedules.{AreAllowed, next}

-- the steps of the harts with these numbers
abbrev pub steps_of : List ℕ → List Op
steps_of harts = map operation.Step harts

-- each of these is the number of a hart
abbrev pub AreHarts : GranuleParts → List ℕ → Type 0
AreHarts parts harts = (i hart : ℕ) → slice_get harts i ≡ Some hart →
    hart < length parts.graph.image.harts

-- the state with each hart at its rest, one after another
abbrev pub rests_in : GranuleParts → MachineState → MachineState
rests_in parts =
    rest_first (step_in parts) (quiet_in parts) MAX_QUIET_STEPS (length parts.graph.image.harts)

-- which harts take quiet steps: those that bring a hart to its rest, or the first harts
abbrev pub way_in : GranuleParts → ℕ → MachineState → List ℕ
way_in parts = way_labels (step_in parts) (quiet_in parts) MAX_QUIET_STEPS

abbrev pub ways_in : GranuleParts → ℕ → MachineState → List ℕ
ways_in parts = rest_labels (step_in parts) (quiet_in parts) MAX_QUIET_STEPS

-- where the step of a hart leads; where it has none, the state stays
abbrev pub stepped_in : GranuleParts → MachineState → ℕ → MachineState
stepped_in parts state hart = unwrap_or (next parts.graph.image [] state hart) state

-- which harts take steps in turns of these harts, from this state on
abbrev pub turns_in : GranuleParts → MachineState → List ℕ → List ℕ
turns_in parts =
    turn_labels (next parts.graph.image []) (step_in parts) (quiet_in parts) MAX_QUIET_STEPS
    (length parts.graph.image.harts)

-- the same from the opening state on, whose harts go to their rest before the first turn
abbrev pub order_in : GranuleParts → List ℕ → List ℕ
order_in parts =
    order_of_turns parts.graph.image [] (is_shared parts.shared) (hides parts.sight)
    MAX_QUIET_STEPS

-- The order that tells the turns of the witness of a state, step by step: of the turns that lead to
-- the state the fewest, and of those the least. The machine takes it, and it leaves the state.
pub record IsOrderTo (parts : GranuleParts) (state : MachineState) (order : List Op) : Type 0 where
  pub labels : List ℕ
  pub least : IsWitness (turn_in parts) (start_in parts) state labels
  pub steps : order ≡ steps_of (order_in parts labels)
  pub allowed : AreAllowed [] order
  pub legal : is_legal parts.graph.image (opening_state parts.graph.image) order ≡ true
  pub leads : replayed_state parts.graph.image order ≡ state
