-- What a search kept in which accesses to own granules are quiet.
use Rattle.std.specs.Prelude.{◌≡◌, ◌+◌, ℕ, List, [], length, slice_get, Option, Some}
use Rattle.std.specs.Prelude.{Bool, true, false}
use Rattle.cheri_model.specs.declared.operation.Op.{Op}
use Rattle.cheri_model.specs.runs.Image.{ImageParts}
use Rattle.cheri_model.specs.runs.ImageRules.{is_image}
use Rattle.cheri_model.specs.runs.Machine.{MachineState, is_running, opening_state}
use Rattle.cheri_model.specs.runs.Replay.{is_legal, replayed_state}
use Rattle.cheri_model.specs.steps.Hart.{HartState}
use Rattle.explore_sights.specs.declared.sights.Sight.{Sight}
use Rattle.explore_sights.specs.Sights.{hides}
use Rattle.explore_turns.specs.declared.quiet.TheConstants.{MAX_QUIET_STEPS}
use Rattle.granule_states.specs.Graphs.{GranuleParts, is_shared, owner_of, start_in, state_in}
use Rattle.granule_states.specs.Graphs.{turn_in}
use Rattle.graph_search.specs.declared.edges.Edge.{Edge}
use Rattle.graph_search.specs.Searches.{IsExplored}
use Rattle.graph_search.specs.Trees.{Found, IsFound, edge_at, state_at}
use Rattle.own_granules.specs.Turns.{AreOwned, rest_of}
use Rattle.schedules.specs.Schedules.{AreAllowed}

-- the graph in whose store the states are, their rows, the edges by which they were found, the
-- limit of the search, whether it finished, and whether these are all that any order leads to
pub record OwnedParts : Type 0 where
  pub graph : GranuleParts
  pub nodes : List (List ℕ)
  pub edges : List Edge
  pub limit : ℕ
  pub finished : Bool
  pub complete : Bool

abbrev pub owned_of : GranuleParts → Found → ℕ → Bool → OwnedParts
owned_of graph found limit owned =
    record {
      graph = graph;
      nodes = found.nodes;
      edges = found.edges;
      limit = limit;
      finished = found.complete;
      complete = owned;
    }

-- how many states are kept, and the state with a number
abbrev pub count : OwnedParts → ℕ
count kept = length kept.nodes

abbrev pub at : OwnedParts → ℕ → Option MachineState
at kept = state_at (state_in kept.graph) kept.nodes

-- the kept states are the first ones that turns lead to, or all
abbrev pub IsSearch : OwnedParts → Type 0
IsSearch kept =
    IsExplored (turn_in kept.graph) (start_in kept.graph) kept.limit (at kept)
    (edge_at kept.edges) (count kept) kept.finished

-- What a search of an image found, in a graph that may have learned more since: the first states
-- that turns lead to, or all.
pub record IsSearchOf (image : ImageParts) (sight : Sight) (graph : GranuleParts) (found : Found)
    (limit : ℕ) : Type 0 where
  pub image_is : graph.graph.image ≡ image
  pub sight_is : graph.sight ≡ sight
  pub wide : found.width ≡ length graph.graph.image.harts + 1
  pub search : IsSearch (owned_of graph found limit false)

-- all that a search of this graph meets respects some owners
abbrev pub AreSomeOwned : GranuleParts → Type 0
AreSomeOwned graph = (owners : List (Option ℕ))
    × AreOwned graph.graph.image [] (is_shared graph.shared) (owner_of owners) (hides graph.sight)
    MAX_QUIET_STEPS

-- What is kept: the first states that turns lead to, or all; and where it was found that these are
-- all, and that all steps which the search met respect some owners, it is so.
pub record IsOwned (graph : GranuleParts) (found : Found) (limit : ℕ) (owned : Bool) : Type 0 where
  pub formed : is_image graph.graph.image ≡ true
  pub search : IsSearch (owned_of graph found limit owned)
  pub wide : found.width ≡ length graph.graph.image.harts + 1
  pub respected : owned ≡ true → (found.complete ≡ true) × AreSomeOwned graph

-- each kept state is left by a legal order of steps
abbrev pub AreSound : OwnedParts → Type 0
AreSound kept = (i : ℕ) (s : MachineState) → at kept i ≡ Some s → (order : List Op)
    × AreAllowed [] order
    × (is_legal kept.graph.graph.image (opening_state kept.graph.graph.image) order ≡ true)
    × (replayed_state kept.graph.graph.image order ≡ s)

-- of the state that every legal order of steps leaves, the one with each hart at its rest is kept
abbrev pub AreAllKept : OwnedParts → Type 0
AreAllKept kept = (order : List Op) → AreAllowed [] order →
    is_legal kept.graph.graph.image (opening_state kept.graph.graph.image) order ≡ true →
    IsFound (at kept) (rest_of kept.graph.graph.image [] (is_shared kept.graph.shared)
    (hides kept.graph.sight) MAX_QUIET_STEPS (replayed_state kept.graph.graph.image order))

-- no hart runs
abbrev pub IsStopped : MachineState → Type 0
IsStopped s = (l : ℕ) (h : HartState) → slice_get s.harts l ≡ Some h → is_running h.status ≡ false

-- each state without running harts that a legal order of steps leaves is kept
abbrev pub AreEndsKept : OwnedParts → Type 0
AreEndsKept kept = (order : List Op) → AreAllowed [] order →
    is_legal kept.graph.graph.image (opening_state kept.graph.graph.image) order ≡ true →
    IsStopped (replayed_state kept.graph.graph.image order) →
    IsFound (at kept) (replayed_state kept.graph.graph.image order)

-- the same search, whose states have the same numbers and witnesses
pub record IsSame (old new : OwnedParts) : Type 0 where
  pub image : new.graph.graph.image ≡ old.graph.graph.image
  pub sight : new.graph.sight ≡ old.graph.sight
  pub shared : new.graph.shared ≡ old.graph.shared
  pub nodes : new.nodes ≡ old.nodes
  pub edges : new.edges ≡ old.edges
  pub limit : new.limit ≡ old.limit
  pub finished : new.finished ≡ old.finished
  pub complete : new.complete ≡ old.complete
  pub states : at new ≡ at old
