-- What a search kept: the first states in the order of their witnesses.
use Rattle.std.specs.Prelude.{◌≡◌, ℕ, ◌+◌, ◌<◌, ◌⊎◌, List, length, Option, Some, None}
use Rattle.std.specs.Prelude.{Bool, true, false}
use Rattle.cheri_model.specs.declared.operation.Op.{Op}
use Rattle.cheri_model.specs.runs.Image.{ImageParts}
use Rattle.cheri_model.specs.runs.Machine.{MachineState, opening_state}
use Rattle.cheri_model.specs.runs.Replay.{is_legal, replayed_state}
use Rattle.graph_search.specs.declared.edges.Edge.{Edge}
use Rattle.graph_search.specs.Searches.{IsExplored, Reaches}
use Rattle.graph_search.specs.Trees.{IsFound, state_at, edge_at, Found}
use Rattle.graph_search.specs.Walks.{IsWitness}
use Rattle.schedules.specs.declared.ranges.SweepRange.{SweepRange}
use Rattle.schedules.specs.Schedules.{AreAllowed, AreLabelsOf}
use Rattle.explore_sights.specs.declared.sights.Sight.{Sight}
use Rattle.explore_turns.specs.Orders.{order_of_turns}
use Rattle.explore_turns.specs.Turns.{turn_by, rest_by, start_by}
use Rattle.state_store.specs.Stores.{Stored}
use Rattle.states.specs.Graphs.{GraphParts, state_in, turn_in}
use Rattle.states.specs.Searches.{AreTurnsOf, SearchParts}

-- the rows of the states in a store, the edges by which they were found, the limit of the search,
-- and whether these are all
pub record KeptParts : Type 0 where
  pub image : ImageParts
  pub sweeps : List SweepRange
  pub sight : Sight
  pub store : Stored
  pub nodes : List (List ℕ)
  pub edges : List Edge
  pub limit : ℕ
  pub complete : Bool

abbrev pub kept_of : ImageParts → List SweepRange → Sight → Stored → Found → ℕ → KeptParts
kept_of image sweeps sight store found limit =
    record {
      image = image;
      sweeps = sweeps;
      sight = sight;
      store = store;
      nodes = found.nodes;
      edges = found.edges;
      limit = limit;
      complete = found.complete;
    }

-- what was kept is of this search, for a question that sees this
abbrev pub IsKeptOf : SearchParts → Sight → KeptParts → Type 0
IsKeptOf search sees kept = AreTurnsOf search sees kept.image kept.sweeps kept.sight

-- the graph of which they are nodes
abbrev pub graph_of : KeptParts → GraphParts
graph_of kept =
    record { image = kept.image; sweeps = kept.sweeps; sight = kept.sight; store = kept.store }

-- how many states are kept; the state with a number, and the edge by which it was found
abbrev pub count : KeptParts → ℕ
count kept = length kept.nodes

abbrev pub at : KeptParts → ℕ → Option MachineState
at kept = state_at (state_in (graph_of kept)) kept.nodes

abbrev pub edge : KeptParts → ℕ → Edge
edge kept = edge_at kept.edges

-- the kept states are the first ones that turns lead to, or all
abbrev pub IsSearch : KeptParts → Type 0
IsSearch kept =
    IsExplored (turn_by kept.image kept.sweeps kept.sight)
    (start_by kept.image kept.sweeps kept.sight) kept.limit
    (at kept) (edge kept) (count kept) kept.complete

-- What is kept beside: a graph with the turns of that image, those sweeps and that sight, in whose
-- store the states are, and where the search stands in it.
pub record IsKept (image : ImageParts) (sweeps : List SweepRange) (sight : Sight)
    (graph : GraphParts) (found : Found) (limit : ℕ) : Type 0 where
  pub edges : turn_in graph ≡ turn_by image sweeps sight
  pub harts : length graph.image.harts ≡ length image.harts
  pub search : IsSearch (kept_of image sweeps sight graph.store found limit)
  pub wide : found.width ≡ length image.harts + 1
  pub stands : Reaches (turn_in graph) (state_in graph) limit
      (length found.nodes) found.nodes found.edges found.cut

-- The witness of a state as an order: of the turns that lead to the state the fewest, and of those
-- the least, harts ascending before sweeps in the order given; and of these turns each step.
pub record IsWitnessOrder (image : ImageParts) (sweeps : List SweepRange) (sight : Sight)
    (state : MachineState) (order : List Op) : Type 0 where
  pub labels : List ℕ
  pub least : IsWitness (turn_by image sweeps sight) (start_by image sweeps sight) state labels
  pub ops : List Op
  pub operations : AreLabelsOf image sweeps labels ops
  pub turns : order ≡ order_of_turns image sweeps sight ops
  pub allowed : AreAllowed sweeps order
  pub legal : is_legal image (opening_state image) order ≡ true
  pub leads : replayed_state image order ≡ state

-- the operations with which the turns of a state's witness begin
pub record AreWitnessTurns (image : ImageParts) (sweeps : List SweepRange) (sight : Sight)
    (state : MachineState) (ops : List Op) : Type 0 where
  pub labels : List ℕ
  pub least : IsWitness (turn_by image sweeps sight) (start_by image sweeps sight) state labels
  pub operations : AreLabelsOf image sweeps labels ops

-- of the state that every legal order of steps and of these sweeps leaves, the one with each hart
-- at its rest is kept
abbrev pub AreAllKept : KeptParts → Type 0
AreAllKept kept = (order : List Op) → AreAllowed kept.sweeps order →
    is_legal kept.image (opening_state kept.image) order ≡ true →
    IsFound (at kept) (rest_by kept.image kept.sweeps kept.sight (replayed_state kept.image order))

-- no state that a legal order of steps and of these sweeps leaves passes
abbrev pub NonePasses : ImageParts → List SweepRange → (MachineState → Bool) → Type 0
NonePasses image sweeps passing = (order : List Op) → AreAllowed sweeps order →
    is_legal image (opening_state image) order ≡ true → passing (replayed_state image order) ≡ false

-- each state that was kept before still has its number
abbrev pub KeepsNumbers : KeptParts → KeptParts → Type 0
KeepsNumbers before after = (i : ℕ) → i < count before → at after i ≡ at before i

-- no kept state before the one with this number passes
abbrev pub NonePassesBefore : KeptParts → (MachineState → Bool) → ℕ → Type 0
NonePassesBefore kept passing number =
    (i : ℕ) (s : MachineState) → i < number → at kept i ≡ Some s → passing s ≡ false

-- the first kept state that passes, if any does
abbrev pub IsFirstPassing : KeptParts → (MachineState → Bool) → Option ℕ → Type 0
IsFirstPassing kept passing None =
    (i : ℕ) (s : MachineState) → at kept i ≡ Some s → passing s ≡ false
IsFirstPassing kept passing (Some k) =
    (k < count kept) × ((s : MachineState) → at kept k ≡ Some s → passing s ≡ true)
    × NonePassesBefore kept passing k

-- the search found all states, or as many as it may
abbrev pub IsWhole : KeptParts → ℕ → Type 0
IsWhole kept limit = (kept.complete ≡ true) ⊎ (kept.limit ≡ limit)
