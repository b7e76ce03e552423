-- Walks along labels.
use Rattle.std.proofs.Common.{◌≡◌, ℕ, zero, suc, ◌+◌, ◌<◌, ◌≤◌, List, [], ◌∷◌, length, take, get_or, arith, ap, sym, ◌∙◌, refl, inl, inr, subst}
use Rattle.std.specs.Prelude.{Option, Some, None, IfSome, option_and_then}
use Rattle.std.proofs.lemmas.Bool.{cases_eq, cases_lt}
use Rattle.std.proofs.lemmas.List.{take_more, take_all}
use Rattle.std.proofs.lemmas.Option.{none-some}
use Rattle.graph_search.specs.Trees.{IsFound}
use Rattle.graph_search.specs.Walks.{after, IsWalk}
use Rattle.graph_search.proofs.OrderLemmas.{after_more}
use Rattle.graph_loops.specs.Loops.{Takes, StaysFound, AreMeant}

pub takes_item : (ls : List ℕ) (i : ℕ) → i < length ls → Takes ls (get_or ls i 0)
takes_item [] i low = absurd (omega arith)
takes_item (l ∷ ls) zero low = inl refl
takes_item (l ∷ ls) (suc i) low = inr (takes_item ls i (omega arith))

-- one more edge of a walk
pub walk_more : {S : Type 0} (next : S → ℕ → Option S) (at : ℕ → Option S) (count i node here to : ℕ) (ls : List ℕ) →
    AreMeant at count → here < count → i < length ls →
    ((s : S) → at node ≡ Some s → after next s (take i ls) ≡ at here) →
    ((s : S) → at here ≡ Some s → next s (get_or ls i 0) ≡ at to) →
    (s : S) → at node ≡ Some s → after next s (take (i + 1) ls) ≡ at to
unfolding AreMeant
walk_more {S} next at count i node here to ls meant below within before edge s is =
    let t = meant here below in
    ap (after next s) (take_more ls i 0 within) ∙ (after_more next s (take i ls) (get_or ls i 0)
    ∙ (ap (λ (o : Option S). option_and_then (λ (u : S). next u (get_or ls i 0)) o) (before s is ∙ t.1) ∙ edge t.0 t.1))

-- the states on the way so far were found, and so was the next one
pub way_more : {S : Type 0} (next : S → ℕ → Option S) (at : ℕ → Option S) (i node to : ℕ) (ls : List ℕ) →
    ((s : S) → at node ≡ Some s → after next s (take (i + 1) ls) ≡ at to) →
    ((s : S) → at node ≡ Some s → (n : ℕ) (t : S) → n ≤ i → IsWalk next s (take n ls) t → IsFound at t) →
    (s : S) → at node ≡ Some s → (n : ℕ) (t : S) → n ≤ i + 1 → IsWalk next s (take n ls) t → IsFound at t
way_more {S} next at i node to ls walk before s is n t low goes = elim (cases_eq n (i + 1)) [
  | inl same ↦ (to, sym (walk s is) ∙ (ap (λ (k : ℕ). after next s (take k ls)) (sym same) ∙ goes))
  | inr other ↦ before s is n t (omega arith) goes
]

pub way_whole : {S : Type 0} (next : S → ℕ → Option S) (at : ℕ → Option S) (i node : ℕ) (ls : List ℕ) →
    length ls ≤ i →
    ((s : S) → at node ≡ Some s → (n : ℕ) (t : S) → n ≤ i → IsWalk next s (take n ls) t → IsFound at t) →
    (s : S) → at node ≡ Some s → StaysFound next at s ls
way_whole {S} next at i node ls all before s is n t goes = elim (cases_lt i n) [
  | inr low ↦ before s is n t (omega arith) goes
  | inl high ↦
      let same : take n ls ≡ take i ls = take_all n ls (omega arith) ∙ sym (take_all i ls (omega arith)) in
      before s is i t (omega arith) (subst (λ (ms : List ℕ). IsWalk next s ms t) same goes)
]

-- one more actor that has no edge, or is among the labels
pub fair_more : {S : Type 0} (next : S → ℕ → Option S) (o : Option S) (ls : List ℕ) (actor : ℕ) →
    ((m : ℕ) (s t : S) → m < actor → o ≡ Some s → next s m ≡ Some t → Takes ls m) →
    ((s t : S) → o ≡ Some s → next s actor ≡ Some t → Takes ls actor) →
    (m : ℕ) (s t : S) → m < actor + 1 → o ≡ Some s → next s m ≡ Some t → Takes ls m
fair_more {S} next o ls actor before now m s t low is goes = elim (cases_eq m actor) [
  | inl same ↦
      subst (λ (k : ℕ). Takes ls k) (sym same) (now s t is (subst (λ (k : ℕ). next s k ≡ Some t) same goes))
  | inr other ↦ before m s t (omega arith) is goes
]

-- the same edge of the same graph
pub same_edge : {S : Type 0} (next next' : S → ℕ → Option S) (at at' : ℕ → Option S) (here l to : ℕ) →
    next' ≡ next → at' ≡ at → ((s : S) → at' here ≡ Some s → next' s l ≡ at' to) →
    (s : S) → at here ≡ Some s → next s l ≡ at to
same_edge {S} next next' at at' here l to graph states edge s is =
    ap (λ (n : S → ℕ → Option S). n s l) (sym graph) ∙ (edge s (ap (λ (a : ℕ → Option S). a here) states ∙ is)
    ∙ ap (λ (a : ℕ → Option S). a to) states)

pub no_edge : {S : Type 0} (next next' : S → ℕ → Option S) (at at' : ℕ → Option S) (here l : ℕ) →
    next' ≡ next → at' ≡ at → ((s : S) → at' here ≡ Some s → next' s l ≡ None) →
    (s t : S) → at here ≡ Some s → next s l ≡ Some t → ⊥
no_edge {S} next next' at at' here l graph states none s t is goes =
    none-some t (sym (none s (ap (λ (a : ℕ → Option S). a here) states ∙ is))
    ∙ (ap (λ (n : S → ℕ → Option S). n s l) graph ∙ goes))

-- what is so of the value that there is
pub of_some : {A : Type 0} (P : A → Type 0) (o : Option A) (x : A) → o ≡ Some x → IfSome o P → P x
of_some {A} P o x is holds = subst (λ (p : Option A). IfSome p P) is holds
