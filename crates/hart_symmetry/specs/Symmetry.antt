-- A symmetry of a graph: a relation of states that are alike as far as edges go, whatever the
-- labels of these are.
use Rattle.std.specs.Prelude.{◌≡◌, ℕ, Bool, true, List, [], ◌∷◌}
use Rattle.std.specs.Prelude.{Option, Some, option_map, unwrap_or}

-- The relation is a symmetry of the states of a graph that pass a test.
pub record IsSymmetry {S : Type 0} (next : S → ℕ → Option S) (fits : S → Bool)
    (Alike : S → S → Type 0) : Type 0 where
  -- edges lead to states that pass, and what is like a state that passes does
  pub keeps : (s t : S) (l : ℕ) → fits s ≡ true → next s l ≡ Some t → fits t ≡ true
  pub fitting : (s t : S) → fits s ≡ true → Alike s t → fits t ≡ true
  -- each state is like itself, and like those that are like it; what is like the like is like it
  pub itself : (s : S) → Alike s s
  pub other : (s t : S) → Alike s t → Alike t s
  pub third : (s t u : S) → Alike s t → Alike t u → Alike s u
  -- where a state has an edge, each that is like it has one, and their ends are alike
  pub edges : (s t x : S) (l : ℕ) → fits s ≡ true → Alike s t → next s l ≡ Some x →
      (m : ℕ) × (y : S) × (next t m ≡ Some y) × Alike x y

-- a function takes each state to one that is like it
abbrev pub Chooses : {S : Type 0} → (S → S → Type 0) → (S → S) → Type 0
Chooses {S} Alike choose = (s : S) → Alike s (choose s)

-- The labels of a walk of chosen states as they are where none is chosen: label l is `place l`
-- there, and after an edge to a state for which another is chosen, label i of the chosen one is
-- label `from i` of that state.
unfoldable pub own_labels : {S : Type 0} → (S → ℕ → Option S) → (S → S) → (S → ℕ → ℕ) → (ℕ → ℕ)
    → S → List ℕ → List ℕ
own_labels next choose from place s [] = []
own_labels next choose from place s (l ∷ ls) =
    place l ∷ unwrap_or (option_map (λ t.
    own_labels next choose from (λ i. place (from t i)) (choose t) ls) (next s l)) []
