-- The graph of a machine's states in which each hart forgets the registers that don't matter, by
-- turns in which accesses to granules that aren't shared are quiet steps.
use Rattle.std.specs.Prelude.{◌≡◌, ℕ, List, Bool, Option, Some, None, slice_get, option_map}
use Rattle.std.specs.Prelude.{nat_lt, if◌then◌else◌}
use Rattle.cheri_model.specs.runs.Image.{ImageParts}
use Rattle.cheri_model.specs.runs.Machine.{MachineState}
use Rattle.cheri_model.specs.steps.Hart.{HartState}
use Rattle.explore_sights.specs.declared.sights.Sight.{Sight}
use Rattle.granule_states.specs.Graphs.{GranuleParts, Learns, is_shared}
use Rattle.granule_states.specs.Graphs as granules
use Rattle.live_registers.specs.LiveSets.{LiveSets, forgotten_hart}
use Rattle.owned_turns.specs.OwnedTurns.{owned_start, owned_turn}
use Rattle.state_store.specs.Stores.{Stored, hart_at}

-- what is seen of it: the registers that matter, and the graph in which no hart forgets
pub record ForgettingParts : Type 0 where
  pub live : LiveSets
  pub graph : GranuleParts

-- the state that a row of numbers means
abbrev pub state_in : ForgettingParts → List ℕ → Option MachineState
state_in parts = granules.state_in parts.graph

-- where a label's turn leads, after which each hart forgets; and where such turns begin
abbrev pub turn_in : ForgettingParts → MachineState → ℕ → Option MachineState
turn_in parts =
    owned_turn parts.graph.graph.image (is_shared parts.graph.shared) parts.graph.sight parts.live

abbrev pub start_in : ForgettingParts → MachineState
start_in parts =
    owned_start parts.graph.graph.image (is_shared parts.graph.shared) parts.graph.sight parts.live

-- A state of the machine with all that decides where its turns lead. A search that knows nothing of
-- the graph keeps them so.
pub record PlacedState : Type 0 where
  pub image : ImageParts
  pub sight : Sight
  pub live : LiveSets
  pub shared : List Bool
  pub state : MachineState

abbrev pub placed : ForgettingParts → MachineState → PlacedState
placed parts state =
    record {
      image = parts.graph.graph.image;
      sight = parts.graph.sight;
      live = parts.live;
      shared = parts.graph.shared;
      state = state;
    }

-- what a row of numbers means
abbrev pub placed_in : ForgettingParts → List ℕ → Option PlacedState
placed_in parts row = option_map (placed parts) (state_in parts row)

-- where the turn of a hart leads, of so many
abbrev pub placed_turn : ℕ → PlacedState → ℕ → Option PlacedState
placed_turn harts from l =
    if nat_lt l harts
    then option_map (λ state. record from { state = state })
    (owned_turn from.image (is_shared from.shared) from.sight from.live from.state l)
    else None

-- the numbers of a hart and of what it forgets to be
pub record IsForgottenNumber (live : LiveSets) (store : Stored) (id after : ℕ) : Type 0 where
  pub hart : HartState
  pub before : hart_at store id ≡ Some hart
  pub there : hart_at store after ≡ Some (forgotten_hart live hart)

-- What the graph keeps: the numbers that are known, each in the place of the hart's number, are
-- those of what harts forget to be.
pub record IsForgetting (live : LiveSets) (store : Stored) (known : List (Option ℕ)) : Type 0 where
  pub numbers : (id after : ℕ) → slice_get known id ≡ Some (Some after) →
      IsForgottenNumber live store id after

-- the same registers matter, and the graph learned more
pub record Remembers (old new : ForgettingParts) : Type 0 where
  pub live : new.live ≡ old.live
  pub graph : Learns old.graph new.graph

-- the graph is of this image, for a question that sees this, to which these registers matter, and
-- these granules are shared
pub record IsGraphOf (image : ImageParts) (sight : Sight) (live : LiveSets) (shared : List Bool)
    (graph : ForgettingParts) : Type 0 where
  pub image_is : graph.graph.graph.image ≡ image
  pub sight_is : graph.graph.sight ≡ sight
  pub live_is : graph.live ≡ live
  pub shared_is : graph.graph.shared ≡ shared
