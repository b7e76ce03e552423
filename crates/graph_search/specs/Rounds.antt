-- Rounds of a search: steps along all edges of many nodes, which are then followed at once.
use Rattle.std.specs.Prelude.{◌≡◌, ℕ, ◌+◌, ◌*◌, ◌<◌, ◌≤◌, nat_eq, List, [], ◌∷◌, ◌++◌, length, slice_get, slice_index_or, Option, Some, Bool, true, false, if◌then◌else◌}
use Rattle.interner.specs.Rows.{row_at}
use Rattle.graph_search.specs.declared.edges.Edge.{Edge}
use Rattle.graph_search.specs.declared.rounds.Round.{Round}
use Rattle.graph_search.specs.Graphs.{LeadsTo}
use Rattle.graph_search.specs.Searches.{IsSearching}

-- no two nodes mean the same
abbrev pub HasOneNode : {S : Type 0} → (List ℕ → Option S) → Type 0
HasOneNode {S} meaning = (m n : List ℕ) (s : S) → meaning m ≡ Some s → meaning n ≡ Some s → m ≡ n

-- so many nodes were read, from this number on
abbrev pub AreRead : ℕ → List (List ℕ) → ℕ → ℕ → List ℕ → Type 0
AreRead width nodes first count read = (i : ℕ) → i < count → slice_get nodes (first + i) ≡ Some (row_at width read i)

-- Steps were made along the edges of these nodes, which had a meaning before: node by node, and of each
-- label by label. For each, whether there is one, and the node to which it leads.
abbrev pub AreRoundSteps : {S : Type 0} → (S → ℕ → Option S) → (List ℕ → Option S) → (List ℕ → Option S) → ℕ → ℕ →
    List ℕ → List Bool → List ℕ → Type 0
AreRoundSteps {S} next before meaning width labels nodes leads rows = (i l : ℕ) (s : S) → l < labels →
    i * labels + l < length leads → before (row_at width nodes i) ≡ Some s →
    LeadsTo meaning (slice_index_or leads (i * labels + l) false) (row_at width rows (i * labels + l)) (next s l)

-- the edge of a step that led to a new node
abbrev pub edge_if : Bool → ℕ → ℕ → List Edge
edge_if true from label = (record { from = from; label = label }) ∷ []
edge_if false from label = []

-- the edges of the steps that led to new nodes, from an edge on, of which the label is one of so many
unfoldable pub edges_at : ℕ → ℕ → ℕ → List Bool → List Edge
edges_at labels from label [] = []
edges_at labels from label (fresh ∷ more) = edge_if fresh from label
    ++ (if nat_eq (label + 1) labels then edges_at labels (from + 1) 0 more else edges_at labels from (label + 1) more)

-- A search stands at the first node of a round, of whose nodes all steps were made.
pub record Stands {S : Type 0} (next : S → ℕ → Option S) (meaning : List ℕ → Option S) (limit width labels : ℕ)
    (nodes : List (List ℕ)) (edges : List Edge) (round : Round) : Type 0 where
  pub few : round.count ≤ 32768
  pub there : round.first + round.count ≤ length nodes
  pub labelled : 0 < round.count → 0 < labels
  pub room : length nodes + length round.leads.items ≤ limit
  pub long : length round.nodes.items ≡ 32768 * width
  pub rows : length round.rows.items ≡ 32768 * labels * width
  pub read : AreRead width nodes round.first round.count round.nodes.items
  pub counted : length round.leads.items ≡ round.count * labels
  pub steps : AreRoundSteps next meaning meaning width labels round.nodes.items round.leads.items round.rows.items
  pub one_node : 0 < round.count → HasOneNode meaning
  pub searching : IsSearching next meaning limit nodes edges round.first 0

-- A round has the nodes behind those of another, as many as it may, and no steps of them were made.
pub record IsBehind (limit width labels : ℕ) (nodes : List (List ℕ)) (now next : Round) : Type 0 where
  pub first : next.first ≡ now.first + now.count
  pub few : next.count ≤ 32768
  pub there : next.first + next.count ≤ length nodes
  pub labelled : 0 < next.count → 0 < labels
  pub room : length nodes + length now.leads.items + next.count * labels ≤ limit
  pub long : length next.nodes.items ≡ 32768 * width
  pub rows : length next.rows.items ≡ 32768 * labels * width
  pub read : AreRead width nodes next.first next.count next.nodes.items
  pub no_steps : next.leads.items ≡ []
