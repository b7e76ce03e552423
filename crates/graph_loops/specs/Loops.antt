-- Walks that lead back to where they began. Labels below a number are those of actors, one each;
-- the others belong to nobody, and a walk of these alone is no loop.
use Rattle.std.specs.Prelude.{◌≡◌, ℕ, ◌+◌, ◌<◌, nat_lt, List, [], ◌∷◌, take, Option, Some, ◌⊎◌}
use Rattle.std.specs.Prelude.{if◌then◌else◌}
use Rattle.graph_search.specs.Trees.{IsFound}
use Rattle.graph_search.specs.Walks.{IsWalk}
use Rattle.graph_loops.specs.declared.scans.Loops.{Loops}
use Rattle.graph_loops.specs.declared.scans.Loops.TheVariants as known
use Rattle.graph_loops.specs.declared.labels.Round.{Round}
use Rattle.graph_loops.specs.declared.labels.Round.TheVariants as round

-- the walk takes an edge of this label
abbrev pub Takes : List ℕ → ℕ → Type 0
Takes [] m = ⊥
Takes (l ∷ ls) m = (l ≡ m) ⊎ Takes ls m

-- the walk leads from s back to it, with a step of an actor
abbrev pub IsLoop : {S : Type 0} → (S → ℕ → Option S) → ℕ → S → List ℕ → Type 0
IsLoop next actors s ls = IsWalk next s ls s × ((m : ℕ) × (m < actors) × Takes ls m)

-- each actor that has a step in s takes one
abbrev pub IsFair : {S : Type 0} → (S → ℕ → Option S) → ℕ → S → List ℕ → Type 0
IsFair {S} next actors s ls = (m : ℕ) (t : S) → m < actors → next s m ≡ Some t → Takes ls m

-- each state on the way along the labels was found
abbrev pub StaysFound : {S : Type 0} → (S → ℕ → Option S) → (ℕ → Option S) → S → List ℕ → Type 0
StaysFound {S} next at s ls = (n : ℕ) (t : S) → IsWalk next s (take n ls) t → IsFound at t

-- how many of the labels are those of actors
abbrev pub actor_count : ℕ → List ℕ → ℕ
actor_count actors [] = 0
actor_count actors (l ∷ ls) =
    if nat_lt l actors then actor_count actors ls + 1 else actor_count actors ls

-- what is known of the loops of all states that were found
abbrev pub IsKnown : {S : Type 0} → (S → ℕ → Option S) → ℕ → (ℕ → Option S) → Loops → Type 0
IsKnown {S} next actors at known.NoLoop =
    (i : ℕ) (s : S) (ls : List ℕ) → at i ≡ Some s → ¬ IsLoop next actors s ls
IsKnown {S} next actors at known.Unfair =
    (i : ℕ) (s : S) (ls : List ℕ) → at i ≡ Some s → IsLoop next actors s ls →
    ¬ IsFair next actors s ls
IsKnown next actors at known.Unknown = Unit {0}

-- what the labels are, followed from s
abbrev pub IsRound : {S : Type 0} → (S → ℕ → Option S) → ℕ → (ℕ → Option S) → S → List ℕ → Round
    → Type 0
IsRound next actors at s ls round.NoLoop = Unit {0}
IsRound next actors at s ls round.Loop = IsLoop next actors s ls × StaysFound next at s ls
IsRound next actors at s ls round.FairLoop =
    IsLoop next actors s ls × StaysFound next at s ls × IsFair next actors s ls

-- so many nodes have a state
unfoldable pub AreMeant : {S : Type 0} → (ℕ → Option S) → ℕ → Type 0
AreMeant {S} at count = (i : ℕ) → i < count → (s : S) × (at i ≡ Some s)
