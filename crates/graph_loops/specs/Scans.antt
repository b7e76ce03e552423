-- A scan of the edges of all nodes. Each node has a number; the scan looks that no edge leads to a
-- node of a greater one, and notes of each number which actors move within it, and which have a
-- step in all of its nodes.
use Rattle.std.specs.Prelude.{◌≡◌, ℕ, ◌+◌, ◌*◌, ◌<◌, ◌≤◌, List, length, Option, Some, None, Bool}
use Rattle.std.specs.Prelude.{true, false, slice_index, slice_index_or, ◌⊎◌}
use Rattle.graph_search.specs.Trees.{state_at}
use Rattle.graph_search.specs.Searches.{IsEarlier}

-- what a table has for an actor at a number
abbrev pub entry : List Bool → ℕ → ℕ → ℕ → Bool
entry table actors number actor = slice_index_or table (number * actors + actor) false

-- the edges before this node and label were looked at
pub record IsScanned {S : Type 0} (next : S → ℕ → Option S) (at : ℕ → Option S)
    (number : ℕ → ℕ) (actors : ℕ) (moves runs : ℕ → ℕ → Bool) (node label : ℕ) : Type 0 where
  pub falls : (i l : ℕ) (s t : S) → IsEarlier i l node label → at i ≡ Some s → next s l ≡ Some t →
      (j : ℕ) × (at j ≡ Some t) × (number j ≤ number i)
      × (number j ≡ number i → l < actors → moves (number i) l ≡ true)
  pub idle : (i l : ℕ) (s : S) → IsEarlier i l node label → l < actors → at i ≡ Some s →
      next s l ≡ None → runs (number i) l ≡ false

-- the same of lists: a number for each node, and tables with an entry for each number and actor
pub record IsScanning {S : Type 0} (next : S → ℕ → Option S) (meaning : List ℕ → Option S)
    (actors : ℕ) (nodes : List (List ℕ)) (numbers : List ℕ) (moves runs : List Bool)
    (node label : ℕ) : Type 0 where
  pub even : length numbers ≡ length nodes
  pub below : (i : ℕ) → i < length numbers → slice_index numbers i < length numbers
  pub moves_room : length moves ≡ length numbers * actors
  pub runs_room : length runs ≡ length numbers * actors
  pub meant : (i : ℕ) → i < length nodes → (s : S) × (state_at meaning nodes i ≡ Some s)
  pub scanned : IsScanned next (state_at meaning nodes) (slice_index numbers) actors
      (entry moves actors) (entry runs actors) node label

-- states are what they were, and the scan goes on to this node and label or finds a number that
-- rises
abbrev pub ScansTo : {S : Type 0} → (S → ℕ → Option S) → (List ℕ → Option S) →
    (List ℕ → Option S) → ℕ → List (List ℕ) → List ℕ → ℕ → ℕ → List Bool → List Bool → Bool → Type 0
ScansTo {S} next meaning meaning' actors nodes numbers node label moves runs true =
    (state_at meaning' nodes ≡ state_at meaning nodes)
    × IsScanning next meaning' actors nodes numbers moves runs node label
ScansTo next meaning meaning' actors nodes numbers node label moves runs false =
    state_at meaning' nodes ≡ state_at meaning nodes

-- nobody moves within the number; or one who has a step in all of its nodes doesn't
abbrev pub IsStarved : List Bool → List Bool → ℕ → ℕ → Type 0
IsStarved moves runs actors number =
    ((m : ℕ) → m < actors → entry moves actors number m ≡ false)
    ⊎ ((m : ℕ) × (m < actors) × (entry runs actors number m ≡ true)
    × (entry moves actors number m ≡ false))
