-- How many edges of actors a walk has, by those of the walk between the states that stand for others.
use Rattle.std.proofs.Common.{◌≡◌, ◌≢◌, ℕ, zero, suc, ◌+◌, ◌*◌, ◌<◌, ◌≤◌, List, [], ◌∷◌, arith, ap, sym, ◌∙◌, refl, inl, inr, subst, nat_lt}
use Rattle.std.specs.Prelude.{Option, Some, Bool, true, false}
use Rattle.std.proofs.Math.Nat.{mul-suc, suc-mul, mul-le-mul_left}
use Rattle.std.proofs.lemmas.Bool.{cases_Bool, cases_eq}
use Rattle.std.proofs.lemmas.Bool.Decides.{nat_tests}
use Rattle.std.proofs.lemmas.Option.{same_Some, option_and_then_some}
use Rattle.graph_search.specs.Walks.{after, IsWalk}
use Rattle.graph_loops.specs.Loops.{actor_count}
use Rattle.graph_merging.specs.Merging.{merged, IsMerging}
use Rattle.graph_merging.proofs.MergingLemmas.{walk_from, some_merged}

-- the sum of the first numbers
abbrev total : ℕ → (ℕ → ℕ) → ℕ
total zero f = 0
total (suc n) f = total n f + f n

total_no_more : (n : ℕ) (f g : ℕ → ℕ) → ((m : ℕ) → m < n → f m ≤ g m) → total n f ≤ total n g
total_no_more zero f g less = let one : total zero f ≡ 0 = refl in omega (arith, one)
total_no_more (suc n) f g less =
    let others = total_no_more n f g (λ m low. less m (omega (arith, low))) in
    let own = less n (omega arith) in
    let one : total (suc n) f ≡ total n f + f n = refl in
    let two : total (suc n) g ≡ total n g + g n = refl in
    omega (arith, others, own, one, two)

-- of two lists of numbers the one is no more but at one place
total_but : (n l b : ℕ) (f g : ℕ → ℕ) → ((m : ℕ) → m < n → m ≢ l → f m ≤ g m) → f l ≤ b → total n f ≤ total n g + b
total_but zero l b f g less own = let one : total zero f ≡ 0 = refl in omega (arith, one)
total_but (suc n) l b f g less own =
    let one : total (suc n) f ≡ total n f + f n = refl in
    let two : total (suc n) g ≡ total n g + g n = refl in
    elim (cases_eq n l) [
      | inl same ↦
          let others = total_no_more n f g (λ m low. less m (omega (arith, low)) (λ at. absurd (omega (arith, low, at, same)))) in
          let here : f n ≤ b = subst (λ (k : ℕ). f k ≤ b) (sym same) own in
          omega (arith, others, here, one, two)
      | inr other ↦
          let others = total_but n l b f g (λ m low. less m (omega (arith, low))) own in
          let here = less n (omega arith) other in
          omega (arith, others, here, one, two)
    ]

total_less : (n l : ℕ) (f g : ℕ → ℕ) → l < n → ((m : ℕ) → m < n → m ≢ l → f m ≤ g m) → f l < g l → total n f < total n g
total_less zero l f g low less own = absurd (omega (arith, low))
total_less (suc n) l f g low less own =
    let one : total (suc n) f ≡ total n f + f n = refl in
    let two : total (suc n) g ≡ total n g + g n = refl in
    elim (cases_eq n l) [
      | inl same ↦
          let others = total_no_more n f g (λ m below. less m (omega (arith, below)) (λ at. absurd (omega (arith, below, at, same)))) in
          let here : f n < g n = subst (λ (k : ℕ). f k < g k) (sym same) own in
          omega (arith, others, here, one, two)
      | inr other ↦
          let others = total_less n l f g (omega (arith, low, other)) (λ m below. less m (omega (arith, below))) own in
          let here = less n (omega arith) other in
          omega (arith, others, here, one, two)
    ]

total_most : (n b : ℕ) (f : ℕ → ℕ) → ((m : ℕ) → f m ≤ b) → total n f ≤ n * b
total_most zero b f few = let one : total zero f ≡ 0 = refl in omega (arith, one)
total_most (suc n) b f few =
    let others = total_most n b f few in
    let own = few n in
    let one : total (suc n) f ≡ total n f + f n = refl in
    let product = suc-mul n b in
    omega (arith, others, own, one, product)

module _ {S : Type 0} (next : S → ℕ → Option S) (actors : ℕ) (fits : S → Bool) (merge : S → S) (to_go : S → ℕ → ℕ)
    (h : IsMerging next actors fits merge to_go) (most : ℕ) (few : (s : S) (m : ℕ) → to_go s m ≤ most) where
  abbrev left : S → ℕ
  left s = total actors (to_go s)

  -- what all actors have to go pays for the edges that stay
  abbrev Pays : List ℕ → List ℕ → S → S → Type 0
  Pays ls ms s t = actor_count actors ls + left t ≤ left s + suc most * actor_count actors ms

  pays_stay : (s x t : S) (l : ℕ) (ls ms : List ℕ) → fits s ≡ true → l < actors → next s l ≡ Some x →
      to_go x l < to_go s l → Pays ls ms x t → Pays (l ∷ ls) ms s t
  pays_stay s x t l ls ms fit low goes less tail =
      let own : nat_lt l actors ≡ true = grind (arith, nat_tests) in
      let nearer = total_less actors l (to_go x) (to_go s) low (λ m below other. h.falls s x l m fit goes below other) less in
      let one : actor_count actors (l ∷ ls) ≡ actor_count actors ls + 1 = rw own refl in
      omega arith

  pays_edge : (s x t : S) (l : ℕ) (ls ms : List ℕ) → fits s ≡ true → next s l ≡ Some x →
      Pays ls ms x t → Pays (l ∷ ls) (l ∷ ms) s t
  pays_edge s x t l ls ms fit goes tail = elim (cases_Bool (nat_lt l actors)) [
    | inl own ↦
        let low : l < actors = grind (arith, nat_tests) in
        let rise = total_but actors l most (to_go x) (to_go s) (λ m below other. h.falls s x l m fit goes below other) (few x l) in
        let one : actor_count actors (l ∷ ls) ≡ actor_count actors ls + 1 = rw own refl in
        let more : actor_count actors (l ∷ ms) ≡ actor_count actors ms + 1 = rw own refl in
        let next_one : actor_count actors ms + 1 ≡ suc (actor_count actors ms) = omega arith in
        let whole : suc most * actor_count actors (l ∷ ms) ≡ suc most * actor_count actors ms + suc most =
        ap (λ (n : ℕ). suc most * n) (more ∙ next_one) ∙ mul-suc (suc most) (actor_count actors ms) in
        omega arith
    | inr other ↦
        let same = total_no_more actors (to_go x) (to_go s) (λ m below. h.falls s x l m fit goes below (λ at. let f : nat_lt l actors ≡ true = grind (arith, nat_tests) in absurd (cc))) in
        let none : actor_count actors (l ∷ ls) ≡ actor_count actors ls = rw other refl in
        let also : actor_count actors (l ∷ ms) ≡ actor_count actors ms = rw other refl in
        let whole : suc most * actor_count actors (l ∷ ms) ≡ suc most * actor_count actors ms = ap (λ (n : ℕ). suc most * n) also in
        omega arith
  ]

  -- a walk of the graph leads between the states that stand for its ends, and what it pays
  paid : (s t : S) (ls : List ℕ) → fits s ≡ true → IsWalk next s ls t →
      (ms : List ℕ) × IsWalk (merged next merge) (merge s) ms (merge t) × Pays ls ms s t
  paid s t [] fit walk =
      let same : s ≡ t = same_Some s t walk in
      let even : left s ≡ left t = ap left same in
      let none : actor_count actors [] ≡ 0 = refl in (
        [],
        ap (λ (x : S). Some (merge x)) same,
        omega (arith, even, none),
      )
  paid s t (l ∷ ls) fit walk =
      option_and_then_some (λ (x : S). after next x ls) (next s l) t walk (λ x goes rest.
      let tail = paid x t ls (h.keeps s x l fit goes) rest in
      elim (h.forth s x l fit goes) [
        | inl stays ↦ (
          tail.0,
          subst (λ (y : S). IsWalk (merged next merge) y tail.0 (merge t)) stays.1 tail.1,
          pays_stay s x t l ls tail.0 fit stays.0 goes stays.2 tail.2,
        )
        | inr edge ↦ (
          l ∷ tail.0,
          walk_from (merged next merge) (merge s) (merge x) (merge t) l tail.0
              (some_merged next merge (merge s) edge.0 l edge.1 ∙ ap (λ (y : S). Some y) edge.2) tail.1,
          pays_edge s x t l ls tail.0 fit goes tail.2,
        )
      ])

  -- where walks between states that stand for others have fewer edges of actors than some number, those
  -- of the graph have so many times fewer
  pub walks_bounded : (count : ℕ) (o t : S) (ls : List ℕ) → fits o ≡ true →
      ((u : S) (ms : List ℕ) → IsWalk (merged next merge) (merge o) ms u → actor_count actors ms < count) →
      IsWalk next o ls t → actor_count actors ls < suc most * count + actors * most
  walks_bounded count o t ls fit short walk =
      let way = paid o t ls fit walk in
      let pays = way.2 in
      let fewer = short (merge t) way.0 way.1 in
      let opens = total_most actors most (to_go o) (few o) in
      let n = actor_count actors way.0 in
      let times : suc most * suc n ≤ suc most * count = mul-le-mul_left (suc most) (omega (arith, fewer)) in
      let one = mul-suc (suc most) n in
      omega (arith, pays, opens, times, one)
