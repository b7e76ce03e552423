-- What a search for loops found.
use Rattle.std.specs.Prelude.{◌≡◌, ℕ, List, Option, Some, Bool, true}
use Rattle.graph_loops.specs.Loops.{IsLoop, IsFair, StaysFound, IsKnown}
use Rattle.graph_loops.specs.declared.scans.Loops.TheVariants as known
use Rattle.loop_search.specs.declared.judging.FoundLoop.{FoundLoop}
use Rattle.loop_search.specs.declared.judging.Verdict.{Verdict}
use Rattle.loop_search.specs.declared.judging.Verdict.TheVariants as verdict
use Rattle.loop_search.specs.declared.judging.Tried.{Tried}
use Rattle.loop_search.specs.declared.judging.Tried.TheVariants as tried

-- the labels are those of a loop of the node's state, on which each state was found; of a fair one
abbrev pub IsFoundLoop : {S : Type 0} → (S → ℕ → Option S) → ℕ → (ℕ → Option S) → FoundLoop → Type 0
IsFoundLoop {S} next actors at given =
    (s : S) × (at given.node ≡ Some s) × IsLoop next actors s given.labels.items
    × StaysFound next at s given.labels.items

abbrev pub IsFoundFair : {S : Type 0} → (S → ℕ → Option S) → ℕ → (ℕ → Option S) → FoundLoop → Type 0
IsFoundFair {S} next actors at given =
    (s : S) × (at given.node ≡ Some s) × IsLoop next actors s given.labels.items
    × StaysFound next at s given.labels.items × IsFair next actors s given.labels.items

-- what became of a loop that was looked for
abbrev pub IsTried : {S : Type 0} → (S → ℕ → Option S) → ℕ → (ℕ → Option S) → Tried → Type 0
IsTried next actors at tried.Nothing = Unit {0}
IsTried next actors at (tried.Loop given) = IsFoundLoop next actors at given
IsTried next actors at (tried.Fair given) = IsFoundFair next actors at given

-- no state has two numbers
unfoldable pub AreDistinct : {S : Type 0} → (ℕ → Option S) → Type 0
AreDistinct {S} at = (i j : ℕ) (s : S) → at i ≡ Some s → at j ≡ Some s → i ≡ j

-- a verdict on the states that were found
abbrev pub IsVerdict : {S : Type 0} → (S → ℕ → Option S) → ℕ → (ℕ → Option S) → Bool → Verdict
    → Type 0
IsVerdict next actors at complete (verdict.Fair given) = IsFoundFair next actors at given
IsVerdict next actors at complete verdict.Unknown = Unit {0}
IsVerdict next actors at complete (verdict.Unfair given) =
    (complete ≡ true) × IsKnown next actors at known.Unfair × IsFoundLoop next actors at given
IsVerdict next actors at complete verdict.NoLoop =
    (complete ≡ true) × IsKnown next actors at known.NoLoop
