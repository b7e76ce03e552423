-- What a search for a state finds where harts forget the registers that don't matter, and accesses
-- to granules that aren't shared are quiet.
use Rattle.std.specs.Prelude.{◌≡◌, ℕ, ◌<◌, ◌≤◌, ◌⊎◌, List, [], Option, Some, None}
use Rattle.std.specs.Prelude.{Bool, true, false, ◌&&◌, ◌==◌, length}
use Rattle.cheri_model.specs.declared.operation.Op.{Op}
use Rattle.cheri_model.specs.runs.Image.{ImageParts}
use Rattle.cheri_model.specs.runs.Machine.{MachineState, opening_state}
use Rattle.cheri_model.specs.runs.Replay.{is_legal, replayed_state}
use Rattle.explore_sights.specs.declared.sights.Sight.{Sight}
use Rattle.explore_sights.specs.Sights.{hides}
use Rattle.explore_turns.specs.declared.quiet.TheConstants.{MAX_QUIET_STEPS}
use Rattle.forgotten_runs.specs.ForgottenRuns.{forgotten_state}
use Rattle.granule_states.specs.Graphs.{is_shared}
use Rattle.granule_states.specs.Orders.{steps_of}
use Rattle.graph_search.specs.declared.edges.Edge.{Edge}
use Rattle.graph_search.specs.Searches.{IsExplored}
use Rattle.graph_search.specs.Walks.{IsWitness}
use Rattle.live_registers.specs.LiveSets.{LiveSets}
use Rattle.own_granules.specs.Granules.{granules_of}
use Rattle.own_granules.specs.Turns.{KeepsPassing, order_of_turns}
use Rattle.owned_search.specs.Nodes.{NonePassesBefore}
use Rattle.owned_turns.specs.OwnedTurns.{owned_start, owned_turn}
use Rattle.schedules.specs.Schedules.{AreAllowed}
use Rattle.states.specs.Searches.{SearchParts}

-- each granule that is shared in the first list is shared in the second
abbrev pub AreMoreShared : List Bool → List Bool → Type 0
AreMoreShared before after =
    (granule : ℕ) → is_shared before granule ≡ true → is_shared after granule ≡ true

-- a state that passes a test, and whose memory is as large as the image's
abbrev pub sized : ImageParts → (MachineState → Bool) → MachineState → Bool
sized image passing state = (length state.memory == granules_of image) && passing state

-- such a state still passes after quiet steps, whichever granules are shared, if these are among them
abbrev pub KeepsPassingShared : ImageParts → List Bool → Sight → (MachineState → Bool) → Type 0
KeepsPassingShared image first sight passing = (shared : List Bool) → AreMoreShared first shared →
    KeepsPassing image [] (is_shared shared) (hides sight) (sized image passing)

-- The witness of a node as an order: of the turns that lead to the node the fewest, and of those
-- the least; of these turns each step. The machine takes it, and the state that it leaves forgets
-- to be that of the node.
pub record IsOwnedOrderTo (image : ImageParts) (shared : List Bool) (sight : Sight)
    (live : LiveSets) (state : MachineState) (order : List Op) : Type 0 where
  pub labels : List ℕ
  pub least :
      IsWitness (owned_turn image (is_shared shared) sight live)
      (owned_start image (is_shared shared) sight live) state labels
  pub steps :
      order ≡ steps_of (order_of_turns image [] (is_shared shared) (hides sight) MAX_QUIET_STEPS
      labels)
  pub allowed : AreAllowed [] order
  pub legal : is_legal image (opening_state image) order ≡ true
  pub leads : forgotten_state live (replayed_state image order) ≡ state

-- the order is that of the first node that passes; there is none where none passes
abbrev pub IsOwnedOrderToFirst : ImageParts → List Bool → Sight → LiveSets
    → (ℕ → Option MachineState) → (MachineState → Bool) → Option (List Op) → Type 0
IsOwnedOrderToFirst image shared sight live at passing None =
    (i : ℕ) (s : MachineState) → at i ≡ Some s → passing s ≡ false
IsOwnedOrderToFirst image shared sight live at passing (Some order) =
    (i : ℕ) × (s : MachineState) × (at i ≡ Some s) × (passing s ≡ true)
    × NonePassesBefore at passing i × IsOwnedOrderTo image shared sight live s order

-- What a search gives, for a question that sees this, and to which these registers matter: just so
-- many nodes were kept, the first ones in the order of their witnesses, or all, where accesses to
-- all but some shared granules are quiet, these among them; and the order leads to the first node
-- that passes. Where none passes these are all, or as many as may be kept.
pub record IsOwnedSought (search : SearchParts) (sees : Sight) (live : LiveSets)
    (first_shared : List Bool) (passing : MachineState → Bool) (order : Option (List Op))
    (count : ℕ) (complete : Bool) : Type 0 where
  pub shared : List Bool
  pub limit : ℕ
  pub at : ℕ → Option MachineState
  pub edge : ℕ → Edge
  pub finished : Bool
  pub more : AreMoreShared first_shared shared
  pub within : limit ≤ search.limit
  pub nodes :
      IsExplored (owned_turn search.image (is_shared shared) sees live)
      (owned_start search.image (is_shared shared) sees live) limit at edge count finished
  pub counted : (i : ℕ) (s : MachineState) → at i ≡ Some s → i < count
  pub first : IsOwnedOrderToFirst search.image shared sees live at passing order
  pub whole : order ≡ None → (finished ≡ true) ⊎ (limit ≡ search.limit)
  pub all : complete ≡ true → finished ≡ true
