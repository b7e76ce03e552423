-- The graph of a machine's states by turns in which accesses to granules that aren't shared are
-- quiet steps.
use Rattle.std.specs.Prelude.{◌≡◌, ℕ, ◌+◌, ◌*◌, List, [], length, slice_index_or}
use Rattle.std.specs.Prelude.{Bool, true, Option, None, nat_lt, option_map, if◌then◌else◌}
use Rattle.cheri_model.specs.runs.Image.{ImageParts}
use Rattle.cheri_model.specs.runs.ImageRules.{is_image}
use Rattle.cheri_model.specs.runs.Machine.{MachineState, state_after_step}
use Rattle.explore_sights.specs.declared.sights.Sight.{Sight}
use Rattle.explore_sights.specs.declared.sights.Sight.TheVariants.{EveryStep}
use Rattle.explore_sights.specs.Sights.{hides}
use Rattle.explore_turns.specs.declared.quiet.TheConstants.{MAX_QUIET_STEPS}
use Rattle.own_granules.specs.Granules.{is_quiet}
use Rattle.own_granules.specs.Turns.{start, turn}
use Rattle.states.specs.Graphs.{Continues, GraphParts}
use Rattle.states.specs.Graphs as plain

-- the granule is shared; those past the end are
unfoldable pub is_shared : List Bool → ℕ → Bool
is_shared shared granule = slice_index_or shared granule true

-- the only hart that may touch a granule, if there is one
unfoldable pub owner_of : List (Option ℕ) → ℕ → Option ℕ
owner_of owners granule = slice_index_or owners granule None

-- what is seen of it: the graph of all steps, what the question sees, and which granules are shared
pub record GranuleParts : Type 0 where
  pub graph : GraphParts
  pub sight : Sight
  pub shared : List Bool

-- the state that a row of numbers means
abbrev pub state_in : GranuleParts → List ℕ → Option MachineState
state_in parts = plain.state_in parts.graph

-- where a hart's step leads, and whether it is quiet
abbrev pub step_in : GranuleParts → MachineState → ℕ → MachineState
step_in parts = state_after_step parts.graph.image

abbrev pub quiet_in : GranuleParts → MachineState → ℕ → Bool
quiet_in parts = is_quiet parts.graph.image [] (is_shared parts.shared) (hides parts.sight)

-- where a label's turn leads
abbrev pub turn_in : GranuleParts → MachineState → ℕ → Option MachineState
turn_in parts =
    turn parts.graph.image [] (is_shared parts.shared) (hides parts.sight) MAX_QUIET_STEPS

-- A state of the machine with all that decides where its turns lead. A search that knows nothing of
-- the graph keeps them so.
pub record Placed : Type 0 where
  pub image : ImageParts
  pub sight : Sight
  pub shared : List Bool
  pub state : MachineState

abbrev pub placed : GranuleParts → MachineState → Placed
placed parts state =
    record {
      image = parts.graph.image;
      sight = parts.sight;
      shared = parts.shared;
      state = state;
    }

-- what a row of numbers means
abbrev pub placed_in : GranuleParts → List ℕ → Option Placed
placed_in parts row = option_map (placed parts) (state_in parts row)

-- where the turn of a hart leads, of so many
abbrev pub placed_turn : ℕ → Placed → ℕ → Option Placed
placed_turn harts from l =
    if nat_lt l harts
    then option_map (λ state. record from { state = state })
    (turn from.image [] (is_shared from.shared) (hides from.sight) MAX_QUIET_STEPS from.state l)
    else None

-- where turns begin
abbrev pub start_in : GranuleParts → MachineState
start_in parts =
    start parts.graph.image [] (is_shared parts.shared) (hides parts.sight) MAX_QUIET_STEPS

-- What the graph keeps: all steps are seen in the graph of all steps, nothing is swept, memories
-- are as large as the image's RAM, and there is room for a node.
pub record IsGranuleGraph (graph : GraphParts) (row : List ℕ) : Type 0 where
  pub formed : is_image graph.image ≡ true
  pub unswept : graph.sweeps ≡ []
  pub seen : graph.sight ≡ EveryStep
  pub granules : 16 * graph.store.granules ≡ graph.image.ram
  pub row_size : length row ≡ length graph.image.harts + 1

-- what is seen of steps is the same, and so are the shared granules; and the graph learned more
pub record Learns (old new : GranuleParts) : Type 0 where
  pub graph : Continues old.graph new.graph
  pub sight : new.sight ≡ old.sight
  pub shared : new.shared ≡ old.shared
