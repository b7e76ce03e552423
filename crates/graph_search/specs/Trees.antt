-- The nodes that a search found, numbered from 0 in the order in which it found them, each with the
-- edge by which it did.
use Rattle.std.specs.Prelude.{◌≡◌, ◌≢◌, ℕ, ◌<◌, ◌≤◌, List, [], ◌∷◌, ◌++◌, length, slice_get, Option}
use Rattle.std.specs.Prelude.{Some, option_and_then, slice_index_or, ◌⊎◌, Bool, true, false}
use Rattle.graph_search.specs.declared.edges.Edge.{Edge}

-- the state of node i
abbrev pub state_at : {S : Type 0} → (List ℕ → Option S) → List (List ℕ) → ℕ → Option S
state_at meaning nodes i = option_and_then meaning (slice_get nodes i)

-- the state is that of a node
abbrev pub IsFound : {S : Type 0} → (ℕ → Option S) → S → Type 0
IsFound at s = (i : ℕ) × (at i ≡ Some s)

-- the edge of node i
abbrev pub edge_at : List Edge → ℕ → Edge
edge_at edges i = slice_index_or edges i (record { from = 0; label = 0 })

-- the labels of the edges from node i back to the first node
abbrev pub IsTrace : (ℕ → Edge) → ℕ → List ℕ → Type 0
IsTrace edge i [] = i ≡ 0
IsTrace edge i (l ∷ ls) = (0 < i) × ((edge i).label ≡ l) × IsTrace edge (edge i).from ls

-- a node was there, or was not there and is the last now
abbrev pub Adds : List ℕ → Edge → List (List ℕ) → List Edge → List (List ℕ) → List Edge → Type 0
Adds node edge nodes edges nodes' edges' =
    ((i : ℕ) × (slice_get nodes i ≡ Some node) × (nodes' ≡ nodes) × (edges' ≡ edges))
    ⊎ (((i : ℕ) → slice_get nodes i ≢ Some node) × (nodes' ≡ nodes ++ node ∷ [])
    × (edges' ≡ edges ++ edge ∷ []))

-- the same within a limit; or a node was not there, and there are as many as the limit
abbrev pub Fits : List ℕ → Edge → ℕ → List (List ℕ) → List Edge → List (List ℕ) → List Edge → Bool → Type 0
Fits node edge limit nodes edges nodes' edges' true =
    Adds node edge nodes edges nodes' edges' × (length nodes' ≤ limit)
Fits node edge limit nodes edges nodes' edges' false =
    ((i : ℕ) → slice_get nodes i ≢ Some node) × (limit ≤ length nodes) × (nodes' ≡ nodes) × (edges' ≡ edges)

-- What a search found: the nodes, all as wide, their edges, whether there are no more, and else the
-- edge at which it was cut.
pub record Found : Type 0 where
  pub width : ℕ
  pub nodes : List (List ℕ)
  pub edges : List Edge
  pub complete : Bool
  pub cut : Option Edge

-- each node has an edge, and all but the first an edge from an older node
pub record IsOrderly (nodes : List (List ℕ)) (edges : List Edge) : Type 0 where
  pub even : length edges ≡ length nodes
  pub older : (i : ℕ) → 0 < i → i < length nodes → (edge_at edges i).from < i
