-- Turns with each of their steps are walks of steps; and what they leave as it is.
use Rattle.std.proofs.Common.{◌≡◌, ℕ, zero, suc, ◌<◌, ◌≤◌, List, [], ◌∷◌, ◌++◌, arith, ap, sym, ◌∙◌, refl, inl, inr, subst}
use Rattle.std.specs.Prelude.{nat_lt, Option, Some, Bool, true, false, replicate, unwrap_or}
use Rattle.std.proofs.lemmas.Bool.{cases_Bool}
use Rattle.std.proofs.lemmas.Bool.Decides.{nat_tests}
use Rattle.std.proofs.lemmas.Option.{none-some, option_and_then_some}
use Rattle.graph_merging.proofs.MergingLemmas.{walk_on, walk_from, merged_some}
use Rattle.graph_search.specs.Walks.{after, IsWalk}
use Rattle.own_granules.specs.Orders.{if_it_ends, way_labels, rest_labels, after_labels, turn_labels}
use Rattle.own_granules.specs.Rests.{come, rest_one, rest_first, rest_after, steps_to_rest}
use Rattle.own_granules.specs.Searches.{turn_of}
use Rattle.own_granules.proofs.WayLemmas.{option_cases, come_on, come_none, stopped_at, steps_on, steps_stop, rest_none, rest_some, rest_still}

module _ {S : Type 0} (step : S → ℕ → S) (quiet : S → ℕ → Bool) (most : ℕ) where
  abbrev one : ℕ → S → S
  one l s = rest_one step quiet most l s

  abbrev first : ℕ → S → S
  first i s = rest_first step quiet most i s

  -- where no actor has a quiet step, all are at their rest
  pub all_still : (i : ℕ) (s : S) → ((l : ℕ) → quiet s l ≡ false) → first i s ≡ s
  unfolding rest_first
  all_still zero s none = refl
  all_still (suc i) s none = ap (one i) (all_still i s none) ∙ rest_still step quiet i most s (none i)

  -- a test that passes after quiet steps
  module _ (passing : S → Bool)
      (keeps : (s : S) (l : ℕ) → quiet s l ≡ true → passing s ≡ true → passing (step s l) ≡ true) where
    way_passing : (k : ℕ) (s g : S) (l : ℕ) → passing s ≡ true → come step quiet l k s ≡ Some g → passing g ≡ true
    way_passing zero s g l pass is = elim (cases_Bool (quiet s l)) [
      | inl holds ↦ absurd (none-some g (sym (come_none step quiet l s holds) ∙ is))
      | inr fails ↦ subst (λ (x : S). passing x ≡ true) (stopped_at step quiet l 0 s g fails is) pass
    ]
    way_passing (suc k) s g l pass is = elim (cases_Bool (quiet s l)) [
      | inl holds ↦ way_passing k (step s l) g l (keeps s l holds pass) (sym (come_on step quiet l k s holds) ∙ is)
      | inr fails ↦ subst (λ (x : S). passing x ≡ true) (stopped_at step quiet l (suc k) s g fails is) pass
    ]

    one_passing : (l : ℕ) (s : S) → passing s ≡ true → passing (one l s) ≡ true
    one_passing l s pass = elim (option_cases (come step quiet l most s)) [
      | inl none ↦ ap passing (rest_none step quiet l most s none) ∙ pass
      | inr some ↦
          ap passing (rest_some step quiet l most s some.0 some.1) ∙ way_passing most s some.0 l pass some.1
    ]

    pub first_passing : (i : ℕ) (s : S) → passing s ≡ true → passing (first i s) ≡ true
    unfolding rest_first
    first_passing zero s pass = pass
    first_passing (suc i) s pass = one_passing i (first i s) (first_passing i s pass)

  module _ (next : S → ℕ → Option S) (n : ℕ)
      (quiet_next : (s : S) (l : ℕ) → l < n → quiet s l ≡ true → next s l ≡ Some (step s l)) where
    abbrev steps : ℕ → ℕ → S → ℕ
    steps l k s = steps_to_rest step quiet l k s

    stays_here : (s g : S) (l k : ℕ) → k ≡ 0 → s ≡ g → IsWalk next s (replicate k l) g
    stays_here s g l k none same =
        subst (λ (i : ℕ). IsWalk next s (replicate i l) g) (sym none) (ap (λ (x : S). Some x) same)

    way_walk : (k : ℕ) (s g : S) (l : ℕ) → l < n → come step quiet l k s ≡ Some g →
        IsWalk next s (replicate (steps l k s) l) g
    way_walk zero s g l low is = elim (cases_Bool (quiet s l)) [
      | inl holds ↦ absurd (none-some g (sym (come_none step quiet l s holds) ∙ is))
      | inr fails ↦
          stays_here s g l (steps l 0 s) (steps_stop step quiet l 0 s fails) (stopped_at step quiet l 0 s g fails is)
    ]
    way_walk (suc k) s g l low is = elim (cases_Bool (quiet s l)) [
      | inl holds ↦
          let tail = way_walk k (step s l) g l low (sym (come_on step quiet l k s holds) ∙ is) in
          let whole : IsWalk next s (replicate (suc (steps l k (step s l))) l) g =
          walk_from next s (step s l) g l (replicate (steps l k (step s l)) l) (quiet_next s l low holds) tail in
          subst (λ (i : ℕ). IsWalk next s (replicate i l) g) (sym (steps_on step quiet l k s holds)) whole
      | inr fails ↦
          stays_here s g l (steps l (suc k) s) (steps_stop step quiet l (suc k) s fails)
          (stopped_at step quiet l (suc k) s g fails is)
    ]

    one_walk : (l : ℕ) (s : S) → l < n → IsWalk next s (way_labels step quiet most l s) (one l s)
    unfolding way_labels
    one_walk l s low = elim (option_cases (come step quiet l most s)) [
      | inl none ↦
          stays_here s (one l s) l (if_it_ends (come step quiet l most s) (steps l most s))
          (ap (λ (o : Option S). if_it_ends o (steps l most s)) none) (sym (rest_none step quiet l most s none))
      | inr some ↦
          let counted : if_it_ends (come step quiet l most s) (steps l most s) ≡ steps l most s =
          ap (λ (o : Option S). if_it_ends o (steps l most s)) some.1 in
          let walk = way_walk most s some.0 l low some.1 in
          subst (λ (i : ℕ). IsWalk next s (replicate i l) (one l s)) (sym counted)
          (subst (λ (x : S). IsWalk next s (replicate (steps l most s) l) x)
          (sym (rest_some step quiet l most s some.0 some.1)) walk)
    ]

    pub first_walk : (i : ℕ) (s : S) → i ≤ n → IsWalk next s (rest_labels step quiet most i s) (first i s)
    unfolding rest_labels rest_first
    first_walk zero s low = refl
    first_walk (suc i) s low =
        walk_on next s (first i s) (one i (first i s)) (rest_labels step quiet most i s)
        (way_labels step quiet most i (first i s)) (first_walk i s (omega (arith, low)))
        (one_walk i (first i s) (omega (arith, low)))

    after_walk : (l : ℕ) (t : S) →
        IsWalk next t (after_labels step quiet most n l t) (rest_after step quiet most n l t)
    unfolding after_labels rest_after
    after_walk l t = elim (cases_Bool (nat_lt l n)) [
      | inl own ↦ rw own (one_walk l t (grind (arith, nat_tests)))
      | inr past ↦ rw past (first_walk n t (omega arith))
    ]

    pub turn_walk : (s r : S) (ls : List ℕ) → IsWalk (turn_of next step quiet most n) s ls r →
        IsWalk next s (turn_labels next step quiet most n s ls) r
    unfolding turn_labels
    turn_walk s r [] walk = walk
    turn_walk s r (l ∷ ls) walk =
        option_and_then_some (λ (x : S). after (turn_of next step quiet most n) x ls)
        (turn_of next step quiet most n s l) r walk
        (λ x goes rest.
        let there = merged_some (rest_after step quiet most n l) (next s l) x goes in
        let t = there.0 in
        let to = unwrap_or (next s l) s in
        let same : to ≡ t = ap (λ (y : Option S). unwrap_or y s) there.1 in
        let first_edge : next s l ≡ Some to = there.1 ∙ ap (λ (y : S). Some y) (sym same) in
        let end = rest_after step quiet most n l to in
        let at : end ≡ x = ap (rest_after step quiet most n l) same ∙ there.2 in
        let tail = turn_walk end r ls
        (subst (λ (y : S). IsWalk (turn_of next step quiet most n) y ls r) (sym at) rest) in
        walk_from next s to r l
        (after_labels step quiet most n l to ++ turn_labels next step quiet most n end ls) first_edge
        (walk_on next to end r (after_labels step quiet most n l to) (turn_labels next step quiet most n end ls)
        (after_walk l to) tail))
