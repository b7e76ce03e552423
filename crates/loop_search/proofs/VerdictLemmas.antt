-- Verdicts on the same graph and the same states.
use Rattle.std.proofs.Common.{◌≡◌, ℕ, ◌<◌, List, ap, sym, ◌∙◌, subst}
use Rattle.std.specs.Prelude.{Option, Some, Bool, true}
use Rattle.graph_loops.specs.Loops.{AreMeant, IsKnown, IsLoop, IsFair, IsRound}
use Rattle.graph_loops.specs.declared.scans.Loops.{Loops}
use Rattle.graph_loops.specs.declared.labels.Round.TheVariants as round
use Rattle.loop_search.specs.declared.judging.FoundLoop.{FoundLoop}
use Rattle.loop_search.specs.declared.judging.Verdict.{Verdict}
use Rattle.loop_search.specs.declared.judging.Tried.{Tried}
use Rattle.loop_search.specs.Verdicts.{AreDistinct, IsVerdict, IsFoundLoop, IsFoundFair, IsTried}

-- what is so of a graph is so of the same one
pub on_same : {S : Type 0} (P : (S → ℕ → Option S) → (ℕ → Option S) → Type 0) (next next' : S → ℕ → Option S)
    (at at' : ℕ → Option S) → next' ≡ next → at' ≡ at → P next' at' → P next at
on_same {S} P next next' at at' graph states holds =
    subst (λ (n : S → ℕ → Option S). P n at) graph (subst (P next') states holds)

pub meant_on : {S : Type 0} (at at' : ℕ → Option S) (n : ℕ) → at' ≡ at → AreMeant at n → AreMeant at' n
meant_on {S} at at' n states meant = subst (λ (a : ℕ → Option S). AreMeant a n) (sym states) meant

pub distinct_on : {S : Type 0} (at at' : ℕ → Option S) → at' ≡ at → AreDistinct at → AreDistinct at'
distinct_on {S} at at' states distinct = subst AreDistinct (sym states) distinct

-- each node has a state
pub meant_at : {S : Type 0} (at : ℕ → Option S) (n i : ℕ) → AreMeant at n → i < n → (s : S) × (at i ≡ Some s)
unfolding AreMeant
meant_at {S} at n i meant low = meant i low

pub distinct_at : {S : Type 0} (at : ℕ → Option S) → AreDistinct at → (i j : ℕ) (s : S) → at i ≡ Some s →
    at j ≡ Some s → i ≡ j
unfolding AreDistinct
distinct_at {S} at distinct = distinct

pub meant_all : {S : Type 0} (at : ℕ → Option S) (n : ℕ) → AreMeant at n → (i : ℕ) → i < n → (s : S) × (at i ≡ Some s)
unfolding AreMeant
meant_all {S} at n meant = meant

-- labels that were followed
pub loop_followed : {S : Type 0} (next : S → ℕ → Option S) (actors : ℕ) (at : ℕ → Option S) (n : ℕ) (given : FoundLoop) →
    AreMeant at n → given.node < n →
    ((s : S) → at given.node ≡ Some s → IsRound next actors at s given.labels.items round.Loop) →
    IsFoundLoop next actors at given
loop_followed {S} next actors at n given meant low loops =
    let s = meant_at at n given.node meant low in
    let loop = loops s.0 s.1 in
    (s.0, s.1, loop.0, loop.1)

pub fair_followed : {S : Type 0} (next : S → ℕ → Option S) (actors : ℕ) (at : ℕ → Option S) (n : ℕ) (given : FoundLoop) →
    AreMeant at n → given.node < n →
    ((s : S) → at given.node ≡ Some s → IsRound next actors at s given.labels.items round.FairLoop) →
    IsFoundFair next actors at given
fair_followed {S} next actors at n given meant low loops =
    let s = meant_at at n given.node meant low in
    let fair = loops s.0 s.1 in
    (s.0, s.1, fair.0, fair.1, fair.2)

pub fair_is_loop : {S : Type 0} (next : S → ℕ → Option S) (actors : ℕ) (at : ℕ → Option S) (given : FoundLoop) →
    IsFoundFair next actors at given → IsFoundLoop next actors at given
fair_is_loop {S} next actors at given fair = (fair.0, fair.1, fair.2, fair.3)
