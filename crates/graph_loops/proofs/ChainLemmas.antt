-- Where no state leads back to itself, a chain of states is no longer than there are states.
use Rattle.std.proofs.Common.{◌≡◌, ℕ, zero, suc, ◌+◌, ◌<◌, ◌≤◌, ◌==◌, List, [], ◌∷◌, ◌++◌, length, arith, ap, sym, ◌∙◌, refl, inl, inr, subst, nat_lt}
use Rattle.std.specs.Prelude.{Option, Some, true, false, option_and_then, if◌then◌else◌}
use Rattle.std.proofs.lemmas.Bool.{cases_Bool, cases_eq}
use Rattle.std.proofs.lemmas.Bool.Decides.{nat_tests}
use Rattle.std.proofs.lemmas.Option.{option_and_then_some, same_Some}
use Rattle.graph_search.specs.Trees.{IsFound}
use Rattle.graph_search.specs.Walks.{after, IsWalk, IsReachable}
use Rattle.graph_loops.specs.Loops.{Takes, IsLoop, IsFair, actor_count}

-- the numbers without this one
abbrev without : ℕ → List ℕ → List ℕ
without i [] = []
without i (j ∷ js) = if j == i then without i js else j ∷ without i js

without_le : (i : ℕ) (js : List ℕ) → length (without i js) ≤ length js
without_le i [] = omega arith
without_le i (j ∷ js) =
    let rest = without_le i js in
    elim (cases_Bool (j == i)) [
      | inl same ↦ rw same (omega arith)
      | inr other ↦ rw other (omega arith)
    ]

without_less : (i : ℕ) (js : List ℕ) → Takes js i → length (without i js) < length js
without_less i [] takes = absurd takes
without_less i (j ∷ js) takes =
    elim (cases_eq j i) [
      | inl same ↦
          let e : (j == i) ≡ true = grind (arith, nat_tests) in
          let rest = without_le i js in rw e (omega arith)
      | inr other ↦
          let e : (j == i) ≡ false = grind (arith, nat_tests) in
          elim takes [
            | inl here ↦ absurd (other here)
            | inr later ↦ let rest = without_less i js later in rw e (omega arith)
          ]
    ]

without_keeps : (i k : ℕ) (js : List ℕ) → Takes js k → ¬ (k ≡ i) → Takes (without i js) k
without_keeps i k [] takes other = absurd takes
without_keeps i k (j ∷ js) takes other =
    elim (cases_eq j i) [
      | inl same ↦
          let e : (j == i) ≡ true = grind (arith, nat_tests) in
          elim takes [
            | inl here ↦ absurd (other (sym here ∙ same))
            | inr later ↦ rw e (without_keeps i k js later other)
          ]
      | inr apart ↦
          let e : (j == i) ≡ false = grind (arith, nat_tests) in
          elim takes [
            | inl here ↦ rw e (inl here)
            | inr later ↦ rw e (inr (without_keeps i k js later other))
          ]
    ]

-- the numbers below this one
abbrev below : ℕ → List ℕ
below zero = []
below (suc n) = n ∷ below n

below_length : (n : ℕ) → length (below n) ≡ n
below_length zero = refl
below_length (suc n) = ap suc (below_length n)

below_takes : (n i : ℕ) → i < n → Takes (below n) i
below_takes zero i low = absurd (omega arith)
below_takes (suc n) i low = elim (cases_eq n i) [
  | inl same ↦ inl same
  | inr other ↦ inr (below_takes n i (omega arith))
]

takes_some : (js : List ℕ) (i : ℕ) → Takes js i → 0 < length js
takes_some [] i takes = absurd takes
takes_some (j ∷ js) i takes = omega arith

-- so many states, each of which leads to the next one
abbrev pub Chain : {S : Type 0} → (S → S → Type 0) → S → ℕ → Type 0
Chain {S} Leads s zero = Unit {0}
Chain {S} Leads s (suc k) = (t : S) × Leads s t × Chain Leads t k

-- the state has one of these numbers
abbrev HasOne : {S : Type 0} → (ℕ → Option S) → List ℕ → S → Type 0
HasOne {S} at numbers s = (i : ℕ) × (at i ≡ Some s) × Takes numbers i

module _ {S : Type 0} (at : ℕ → Option S) (Leads : S → S → Type 0)
    (follow : (s t u : S) → Leads s t → Leads t u → Leads s u)
    (none : (i : ℕ) (s : S) → at i ≡ Some s → ¬ Leads s s) where
  chain_within : (k : ℕ) (numbers : List ℕ) (s : S) → HasOne at numbers s →
      ((u : S) → Leads s u → HasOne at numbers u) → Chain Leads s k → k < length numbers
  chain_within zero numbers s here later chain = takes_some numbers here.0 here.2
  chain_within (suc k) numbers s here later chain =
      let rest = without here.0 numbers in
      let stays : (u : S) → Leads s u → HasOne at rest u = λ u leads.
      let there = later u leads in (
        there.0,
        there.1,
        without_keeps here.0 there.0 numbers there.2 (λ same. none here.0 s here.1
            (subst (Leads s) (same_Some u s (sym there.1 ∙ (ap at same ∙ here.1))) leads)),
      ) in
      let tail = chain_within k rest chain.0 (stays chain.0 chain.1)
      (λ u leads. stays u (follow s chain.0 u chain.1 leads)) chain.2 in
      let fewer = without_less here.0 numbers here.2 in
      omega arith

  pub chain_short : (count k : ℕ) (s : S) → ((i : ℕ) (t : S) → at i ≡ Some t → i < count) → IsFound at s →
      ((u : S) → Leads s u → IsFound at u) → Chain Leads s k → k < count
  chain_short count k s within here later chain =
      let one : (u : S) → IsFound at u → HasOne at (below count) u =
      λ u found. (found.0, found.1, below_takes count found.0 (within found.0 u found.1)) in
      subst (λ (n : ℕ). k < n) (below_length count)
      (chain_within k (below count) s (one s here) (λ u leads. one u (later u leads)) chain)

-- walks, one after the other
pub walk_append : {S : Type 0} (next : S → ℕ → Option S) (s t u : S) (ls ms : List ℕ) → IsWalk next s ls t →
    IsWalk next t ms u → IsWalk next s (ls ++ ms) u
walk_append {S} next s t u [] ms first second = subst (λ (v : S). IsWalk next v ms u) (sym (same_Some s t first)) second
walk_append {S} next s t u (l ∷ ls) ms first second =
    option_and_then_some (λ (v : S). after next v ls) (next s l) t first (λ v goes rest.
    ap (λ (o : Option S). option_and_then (λ (w : S). after next w (ls ++ ms)) o) goes
    ∙ walk_append next v t u ls ms rest second)

pub takes_left : (ls ms : List ℕ) (m : ℕ) → Takes ls m → Takes (ls ++ ms) m
takes_left [] ms m takes = absurd takes
takes_left (l ∷ ls) ms m takes = elim takes [
  | inl here ↦ inl here
  | inr later ↦ inr (takes_left ls ms m later)
]

module _ {S : Type 0} (next : S → ℕ → Option S) (actors : ℕ) where
  -- a walk with a step of an actor; and of each that has one in its first state
  abbrev pub LeadsOn : S → S → Type 0
  LeadsOn s t = (ls : List ℕ) × IsWalk next s ls t × ((m : ℕ) × (m < actors) × Takes ls m)

  abbrev pub LeadsFairly : S → S → Type 0
  LeadsFairly s t =
      (ls : List ℕ) × IsWalk next s ls t × ((m : ℕ) × (m < actors) × Takes ls m) × IsFair next actors s ls

  on_follow : (s t u : S) → LeadsOn s t → LeadsOn t u → LeadsOn s u
  on_follow s t u first second = (
    first.0 ++ second.0,
    walk_append next s t u first.0 second.0 first.1 second.1,
    (first.2.0, first.2.1, takes_left first.0 second.0 first.2.0 first.2.2),
  )

  fairly_follow : (s t u : S) → LeadsFairly s t → LeadsFairly t u → LeadsFairly s u
  fairly_follow s t u first second = (
    first.0 ++ second.0,
    walk_append next s t u first.0 second.0 first.1 second.1,
    (first.2.0, first.2.1, takes_left first.0 second.0 first.2.0 first.2.2),
    λ m v low goes. takes_left first.0 second.0 m (first.3 m v low goes),
  )

  -- an edge before a chain
  chain_before : (k : ℕ) (s t : S) (l : ℕ) → next s l ≡ Some t → Chain LeadsOn t k → Chain LeadsOn s k
  chain_before zero s t l goes chain = tt
  chain_before (suc k) s t l goes chain =
      let first = chain.1 in (
        chain.0,
        (
          l ∷ first.0,
          ap (λ (o : Option S). option_and_then (λ (v : S). after next v first.0) o) goes ∙ first.1,
          (first.2.0, first.2.1, inr first.2.2),
        ),
        chain.2,
      )

  chain_of_walk : (s t : S) (ls : List ℕ) → IsWalk next s ls t → Chain LeadsOn s (actor_count actors ls)
  chain_of_walk s t [] walk = tt
  chain_of_walk s t (l ∷ ls) walk =
      option_and_then_some (λ (v : S). after next v ls) (next s l) t walk (λ v goes rest.
      let tail = chain_of_walk v t ls rest in
      elim (cases_Bool (nat_lt l actors)) [
        | inl low ↦
            let more : suc (actor_count actors ls) ≡ actor_count actors ls + 1 = omega arith in
            let step : LeadsOn s v = (
              l ∷ [],
              ap (λ (o : Option S). option_and_then (λ (w : S). after next w []) o) goes,
              (l, grind (arith, nat_tests), inl refl),
            ) in
            rw low (subst (Chain LeadsOn s) more (v, step, tail))
        | inr high ↦ rw high (chain_before (actor_count actors ls) s v l goes tail)
      ])

  module _ (at : ℕ → Option S) (count : ℕ) (start : S) (within : (i : ℕ) (s : S) → at i ≡ Some s → i < count)
      (all : (s : S) → IsReachable next start s → IsFound at s) where
    -- a walk has fewer steps of actors than there are states, where these are all and none has a loop
    pub walk_short : ((i : ℕ) (s : S) (ls : List ℕ) → at i ≡ Some s → ¬ IsLoop next actors s ls) →
        (ls : List ℕ) (t : S) → IsWalk next start ls t → actor_count actors ls < count
    walk_short none ls t walk =
        chain_short at LeadsOn on_follow (λ i s is leads. none i s leads.0 is (leads.1, leads.2)) count
        (actor_count actors ls) start within (all start ([], refl)) (λ u leads. all u (leads.0, leads.1))
        (chain_of_walk start t ls walk)

    -- a chain of fair walks is shorter than there are states, where these are all and none has a fair loop
    pub fair_chain_short : ((i : ℕ) (s : S) (ls : List ℕ) → at i ≡ Some s → IsLoop next actors s ls →
        ¬ IsFair next actors s ls) → (k : ℕ) → Chain LeadsFairly start k → k < count
    fair_chain_short none k chain =
        chain_short at LeadsFairly fairly_follow
        (λ i s is leads. none i s leads.0 is (leads.1, leads.2) leads.3) count k start within (all start ([], refl))
        (λ u leads. all u (leads.0, leads.1)) chain
