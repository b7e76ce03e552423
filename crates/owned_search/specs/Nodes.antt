-- The nodes that a search kept: the first ones in the order of their witnesses.
use Rattle.std.specs.Prelude.{◌≡◌, ℕ, ◌+◌, ◌<◌, ◌≤◌, List, length, Option, Some, None}
use Rattle.std.specs.Prelude.{Bool, true, false, IsSome}
use Rattle.cheri_model.specs.runs.Image.{ImageParts}
use Rattle.cheri_model.specs.runs.ImageRules.{is_image}
use Rattle.cheri_model.specs.runs.Machine.{MachineState, opening_state}
use Rattle.explore_sights.specs.declared.sights.Sight.{Sight}
use Rattle.granule_states.specs.Graphs.{GranuleParts, is_shared, owner_of}
use Rattle.granule_states.specs.Graphs as granules
use Rattle.granule_states.specs.Owners.{RespectSome}
use Rattle.graph_search.specs.Searches.{IsExplored, Reaches}
use Rattle.graph_search.specs.Trees.{Found, edge_at, state_at}
use Rattle.live_registers.specs.LiveSets.{LiveSets}
use Rattle.owned_search.specs.Graphs.{ForgettingParts, IsGraphOf, placed_in, placed_turn}
use Rattle.owned_search.specs.Graphs.{start_in, state_in, turn_in}
use Rattle.owned_turns.specs.OwnedTurns.{AreOwnedForgotten}

-- how many harts there are
abbrev pub harts_in : ForgettingParts → ℕ
harts_in graph = length graph.graph.graph.image.harts

-- the state of the node with a number
abbrev pub at : ForgettingParts → Found → ℕ → Option MachineState
at graph found = state_at (state_in graph) found.nodes

-- What is kept: the first nodes that a graph's turns lead to, or all, and where the search stands.
pub record AreNodes (graph : ForgettingParts) (found : Found) (limit : ℕ) : Type 0 where
  pub formed : is_image graph.graph.graph.image ≡ true
  pub nodes :
      IsExplored (turn_in graph) (start_in graph) limit (at graph found) (edge_at found.edges)
      (length found.nodes) found.complete
  pub wide : found.width ≡ harts_in graph + 1
  pub stands : Reaches (placed_turn (harts_in graph)) (placed_in graph) limit
      (length found.nodes) found.nodes found.edges found.cut

-- What is so of nodes in the graph in which no hart forgets: each has a state.
pub record AreGranuleNodes (graph : GranuleParts) (found : Found) : Type 0 where
  pub formed : is_image graph.graph.image ≡ true
  pub short : found.width ≤ 9
  pub meant : (i : ℕ) → i < length found.nodes →
      IsSome (state_at (granules.state_in graph) found.nodes i)

-- The search found all nodes, and the quiet steps with which it began, each step from its nodes,
-- and the quiet steps after it respect some owners.
pub record IsScanned (graph : GranuleParts) (found : Found) : Type 0 where
  pub complete : found.complete ≡ true
  pub owned :
      RespectSome graph (opening_state graph.graph.image)
      (state_at (granules.state_in graph) found.nodes)

-- graphs of the same turns
abbrev pub AreAlike : ForgettingParts → ForgettingParts → Type 0
AreAlike graph other =
    IsGraphOf graph.graph.graph.image graph.graph.sight graph.live graph.graph.shared other

-- no node before this one passes
abbrev pub NonePassesBefore : (ℕ → Option MachineState) → (MachineState → Bool) → ℕ → Type 0
NonePassesBefore at passing number =
    (i : ℕ) (s : MachineState) → i < number → at i ≡ Some s → passing s ≡ false

-- the first node that passes, if any does
abbrev pub IsFirstPassing : (ℕ → Option MachineState) → ℕ → (MachineState → Bool) → Option ℕ
    → Type 0
IsFirstPassing at count passing None =
    (i : ℕ) (s : MachineState) → at i ≡ Some s → passing s ≡ false
IsFirstPassing at count passing (Some number) =
    (number < count) × ((s : MachineState) → at number ≡ Some s → passing s ≡ true)
    × NonePassesBefore at passing number

-- all that a search by such turns meets respects some owners
abbrev pub AreSomeOwned : ImageParts → List Bool → Sight → LiveSets → Type 0
AreSomeOwned image shared sight live = (owners : List (Option ℕ))
    × AreOwnedForgotten image (is_shared shared) (owner_of owners) sight live

-- the search found all nodes, and all that it met respects some owners
abbrev pub AreAllOwned : ForgettingParts → Found → Type 0
AreAllOwned graph found = (found.complete ≡ true)
    × AreSomeOwned graph.graph.graph.image graph.graph.shared graph.graph.sight graph.live
