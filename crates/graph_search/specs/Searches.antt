-- A search in breadth: it follows the edges of the first node, label by label, then those of the
-- second, and so on, and adds each new state as the last node. So nodes stand in the order of their
-- witnesses.
use Rattle.std.specs.Prelude.{◌≡◌, ◌≢◌, ℕ, ◌<◌, ◌≤◌, List, length, Option, Some, None, Bool, true, false, ◌+◌}
use Rattle.std.specs.Prelude.{reverse, slice_index_or}
use Rattle.graph_search.specs.declared.edges.Edge.{Edge}
use Rattle.graph_search.specs.Walks.{IsReachable, IsWalk, IsWitness, IsBefore}
use Rattle.interner.specs.Rows.{row_at}
use Rattle.graph_search.specs.Graphs.{LeadsTo}
use Rattle.graph_search.specs.Trees.{IsFound, IsTrace, Fits, state_at, edge_at}

-- What a search found: at i is the state of node i, of so many nodes, and edge i how it was found.
pub record IsExplored {S : Type 0} (next : S → ℕ → Option S) (start : S) (limit : ℕ)
    (at : ℕ → Option S) (edge : ℕ → Edge) (count : ℕ) (finished : Bool) : Type 0 where
  pub first : at 0 ≡ Some start
  pub within : count ≤ limit
  pub meant : (i : ℕ) → i < count → (s : S) × (at i ≡ Some s)
  pub distinct : (i j : ℕ) (s : S) → at i ≡ Some s → at j ≡ Some s → i ≡ j
  -- every state that was found can be reached, by the walk along its node's edges, which comes
  -- before every other
  pub sound : (s : S) → IsFound at s → IsReachable next start s
  pub witnessed : (i : ℕ) (s : S) (ls : List ℕ) → at i ≡ Some s → IsTrace edge i ls →
      IsWitness next start s (reverse ls)
  -- a search that finished found every state that can be reached
  pub complete : finished ≡ true → (s : S) → IsReachable next start s → IsFound at s
  -- a search that was cut found as many as it may, and not all
  pub full : finished ≡ false → count ≡ limit
  pub more : finished ≡ false → (s : S) × IsReachable next start s × ((i : ℕ) → at i ≢ Some s)
  -- the states found are the first ones, in the order of their witnesses
  pub ordered : (i j : ℕ) (s t : S) (ls ms : List ℕ) → i < j → at i ≡ Some s → at j ≡ Some t →
      IsWitness next start s ls → IsWitness next start t ms → IsBefore ls ms
  pub before_others : (i : ℕ) (s t : S) (ls ms : List ℕ) → at i ≡ Some s →
      IsWitness next start s ls → IsWalk next start ms t →
      ((j : ℕ) → at j ≢ Some t) → IsBefore ls ms

-- node i and label l come before node j and label m
abbrev pub IsEarlier : ℕ → ℕ → ℕ → ℕ → Type 0
IsEarlier i l j m = (i ≤ j) × (i ≡ j → l < m)

-- Where a search stands: it followed every edge of the nodes before this one, and of this one those
-- with labels before this one.
pub record IsSearched {S : Type 0} (next : S → ℕ → Option S) (at : ℕ → Option S) (edge : ℕ → Edge)
    (count node label : ℕ) : Type 0 where
  pub meant : (i : ℕ) → i < count → (s : S) × (at i ≡ Some s)
  pub within : (i : ℕ) (s : S) → at i ≡ Some s → i < count
  pub distinct : (i j : ℕ) (s : S) → at i ≡ Some s → at j ≡ Some s → i ≡ j
  -- edges lead to the nodes found by them, from older ones, and in the order in which they were
  -- followed
  pub older : (i : ℕ) → 0 < i → i < count → (edge i).from < i
  pub leads : (i : ℕ) (s : S) → 0 < i → i < count →
      at (edge i).from ≡ Some s → next s (edge i).label ≡ at i
  pub rising : (i j : ℕ) → 0 < i → i < j → j < count →
      IsEarlier (edge i).from (edge i).label (edge j).from (edge j).label
  pub followed : (i : ℕ) → 0 < i → i < count → IsEarlier (edge i).from (edge i).label node label
  -- each edge that was followed leads to a state that was found
  pub closed : (i l : ℕ) (s t : S) → IsEarlier i l node label →
      at i ≡ Some s → next s l ≡ Some t → IsFound at t
  -- no edge before a node's own leads to it
  pub earliest : (i l j : ℕ) (s t : S) → at i ≡ Some s → next s l ≡ Some t → at j ≡ Some t → 0 < j →
      ¬ IsEarlier i l (edge j).from (edge j).label

-- The same of lists of nodes and edges.
pub record IsSearching {S : Type 0} (next : S → ℕ → Option S) (meaning : List ℕ → Option S)
    (limit : ℕ) (nodes : List (List ℕ)) (edges : List Edge) (node label : ℕ) : Type 0 where
  pub some : 0 < length nodes
  pub within : length nodes ≤ limit
  pub even : length edges ≡ length nodes
  pub searched : IsSearched next (state_at meaning nodes) (edge_at edges) (length nodes) node label

-- Where a search was cut: it has as many nodes as it may, and an edge leads to a state that is none
-- of theirs.
pub record IsCut {S : Type 0} (next : S → ℕ → Option S) (at : ℕ → Option S)
    (count limit : ℕ) : Type 0 where
  pub full : count ≡ limit
  pub more : (i l : ℕ) × (s t : S) × (at i ≡ Some s) × (next s l ≡ Some t)
      × ((j : ℕ) → at j ≢ Some t)

-- The search goes on behind this edge; or it is cut at it.
abbrev pub GoesOn : {S : Type 0} → (S → ℕ → Option S) → (List ℕ → Option S) → ℕ → Edge →
    List (List ℕ) → List Edge → Bool → Type 0
GoesOn next meaning limit edge nodes edges true =
    IsSearching next meaning limit nodes edges edge.from (edge.label + 1)
GoesOn next meaning limit edge nodes edges false =
    IsSearching next meaning limit nodes edges edge.from edge.label
    × IsCut next (state_at meaning nodes) (length nodes) limit

-- where a search of so many nodes stands
abbrev pub place_of : ℕ → Option Edge → Edge
place_of count None = record { from = count; label = 0 }
place_of count (Some edge) = edge

-- The search goes on to this node; or it is cut at an edge.
abbrev pub Reaches : {S : Type 0} → (S → ℕ → Option S) → (List ℕ → Option S) → ℕ → ℕ →
    List (List ℕ) → List Edge → Option Edge → Type 0
Reaches next meaning limit node nodes edges None =
    IsSearching next meaning limit nodes edges node 0
Reaches next meaning limit node nodes edges (Some edge) =
    (edge.from < length nodes)
    × IsSearching next meaning limit nodes edges edge.from edge.label
    × IsCut next (state_at meaning nodes) (length nodes) limit

-- Steps were made along the edges of a state from a label on: for each, whether there is one, and the
-- node to which it leads.
abbrev pub AreSteps : {S : Type 0} → (S → ℕ → Option S) → (List ℕ → Option S) → ℕ → S → ℕ →
    List Bool → List ℕ → Type 0
AreSteps next meaning width state first leads rows = (k : ℕ) → k < length leads →
    LeadsTo meaning (slice_index_or leads k false) (row_at width rows k) (next state (first + k))

-- The node of such a step was followed; or there is no such edge.
abbrev pub Follows : Bool → List ℕ → Edge → ℕ → List (List ℕ) → List Edge → List (List ℕ) → List Edge →
    Bool → Type 0
Follows false node edge limit nodes edges nodes' edges' fits =
    (fits ≡ true) × (nodes' ≡ nodes) × (edges' ≡ edges)
Follows true node edge limit nodes edges nodes' edges' fits = Fits node edge limit nodes edges nodes' edges' fits
