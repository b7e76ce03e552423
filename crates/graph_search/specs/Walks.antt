-- Walks in a graph. A graph is seen as the function next: its edge with label l leads from state s
-- to next s l, if there is one.
use Rattle.std.specs.Prelude.{◌≡◌, ℕ, ◌<◌, List, [], ◌∷◌, length, Option, Some, option_and_then}
use Rattle.std.specs.Prelude.{◌⊎◌}

-- where a walk along edges of these labels leads
abbrev pub after : {S : Type 0} → (S → ℕ → Option S) → S → List ℕ → Option S
after next s [] = Some s
after next s (l ∷ ls) = option_and_then (λ t. after next t ls) (next s l)

-- a walk along these labels leads from s to t
abbrev pub IsWalk : {S : Type 0} → (S → ℕ → Option S) → S → List ℕ → S → Type 0
IsWalk next s ls t = after next s ls ≡ Some t

-- some walk leads from s to t
abbrev pub IsReachable : {S : Type 0} → (S → ℕ → Option S) → S → S → Type 0
IsReachable next s t = (ls : List ℕ) × IsWalk next s ls t

-- at the first difference the label is less
abbrev pub IsLess : List ℕ → List ℕ → Type 0
IsLess [] ms = ⊥
IsLess (l ∷ ls) [] = ⊥
IsLess (l ∷ ls) (m ∷ ms) = (l < m) ⊎ ((l ≡ m) × IsLess ls ms)

-- shorter, or as long and less
abbrev pub IsBefore : List ℕ → List ℕ → Type 0
IsBefore ls ms = (length ls < length ms) ⊎ ((length ls ≡ length ms) × IsLess ls ms)

-- the walk to s that comes before all others: the shortest, and of those the least
abbrev pub IsWitness : {S : Type 0} → (S → ℕ → Option S) → S → S → List ℕ → Type 0
IsWitness next start s ls =
    IsWalk next start ls s × ((ms : List ℕ) → IsWalk next start ms s → ¬ IsBefore ms ls)
