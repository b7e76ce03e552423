-- A graph with fewer states: a function takes each state to one that stands for it, and edges lead
-- between those that stand for others. Labels below a number are those of actors, one each.
use Rattle.std.specs.Prelude.{◌≡◌, ◌≢◌, ℕ, ◌<◌, ◌≤◌, List, Option, Some, option_map, ◌⊎◌, Bool}
use Rattle.std.specs.Prelude.{true}
use Rattle.graph_search.specs.Walks.{IsWalk}

-- an edge and then the function
abbrev pub merged : {S : Type 0} → (S → ℕ → Option S) → (S → S) → S → ℕ → Option S
merged next merge s l = option_map merge (next s l)

-- An edge of an actor from s to t that stays where it was: the same state stands for both, and the
-- actor has fewer of such edges to go.
abbrev pub Stays : {S : Type 0} → ℕ → (S → S) → (S → ℕ → ℕ) → S → ℕ → S → Type 0
Stays actors merge to_go s l t = (l < actors) × (merge t ≡ merge s) × (to_go t l < to_go s l)

-- The function merges the states of a graph that pass a test: questions of their walks and loops
-- can be asked of those that stand for others alone.
pub record IsMerging {S : Type 0} (next : S → ℕ → Option S) (actors : ℕ) (fits : S → Bool)
    (merge : S → S) (to_go : S → ℕ → ℕ) : Type 0 where
  -- edges lead to states that pass
  pub keeps : (s t : S) (l : ℕ) → fits s ≡ true → next s l ≡ Some t → fits t ≡ true
  -- each edge stays, or what stands for its beginning has it too, up to what stands for its end
  pub forth : (s t : S) (l : ℕ) → fits s ≡ true → next s l ≡ Some t →
      Stays actors merge to_go s l t
      ⊎ ((u : S) × (next (merge s) l ≡ Some u) × (merge u ≡ merge t))
  -- an edge gives no other actor more to go
  pub falls : (s t : S) (l m : ℕ) → fits s ≡ true → next s l ≡ Some t → m < actors → m ≢ l →
      to_go t m ≤ to_go s m
  -- what stands for a state can be reached from it
  pub leads : (s : S) → fits s ≡ true → (ls : List ℕ) × IsWalk next s ls (merge s)
  -- an actor with an edge in what stands for a state has one in the state
  pub still : (s u : S) (l : ℕ) → fits s ≡ true → next (merge s) l ≡ Some u → l < actors →
      (t : S) × (next s l ≡ Some t)
