-- The states in which actors are at their rest, one after another, stand for all states.
use Rattle.std.proofs.Common.{◌≡◌, ◌≢◌, ℕ, zero, suc, ◌<◌, ◌≤◌, List, [], ◌∷◌, ◌++◌, arith, ap, sym, ◌∙◌, refl, inl, inr, ◌⊎◌, subst}
use Rattle.std.specs.Prelude.{Option, Some, Bool, true, false}
use Rattle.std.proofs.lemmas.Bool.{cases_Bool, both_ways}
use Rattle.std.proofs.lemmas.Option.{none-some}
use Rattle.graph_merging.proofs.MergingLemmas.{walk_on, walk_from}
use Rattle.graph_merging.specs.Merging.{IsMerging, Stays}
use Rattle.graph_search.specs.Walks.{IsWalk}
use Rattle.own_granules.specs.Rests.{come, rest_one, rest_first}
use Rattle.own_granules.proofs.WayLemmas.{option_cases, come_on, come_none, stopped_at, rest_none, rest_some, moves_or_rests}
use Rattle.own_granules.proofs.ApartLemmas.{AreApart, fits_first, rests_before, stays, may_rested, rests_on}
use Rattle.own_granules.proofs.SweptLemmas.{AreWhole, IsSwept, go, go_own, go_other, go_swept, swept_on}

-- an edge of no actor: it is there in each state, and leaves actors whole that are
pub record IsSweeping {S : Type 0} (next : S → ℕ → Option S) (step : S → ℕ → S) (quiet whole : S → ℕ → Bool)
    (fits : S → Bool) (n : ℕ) (s t : S) (l : ℕ) : Type 0 where
  pub sweep : S → S
  pub swept : IsSwept step quiet whole fits n sweep
  pub high : n ≤ l
  pub leads : sweep s ≡ t
  pub goes : (x : S) → fits x ≡ true → next x l ≡ Some (sweep x)

-- edges are the steps of actors below a number that may step, and such edges
pub record IsNext {S : Type 0} (next : S → ℕ → Option S) (step : S → ℕ → S) (quiet ok whole : S → ℕ → Bool)
    (fits : S → Bool) (n : ℕ) : Type 0 where
  pub edge : (s t : S) (l : ℕ) → fits s ≡ true → next s l ≡ Some t →
      ((l < n) × (ok s l ≡ true) × (step s l ≡ t)) ⊎ IsSweeping next step quiet whole fits n s t l
  pub has : (s : S) (l : ℕ) → fits s ≡ true → l < n → ok s l ≡ true → next s l ≡ Some (step s l)

module _ {S : Type 0} (step : S → ℕ → S) (quiet ok whole : S → ℕ → Bool) (fits : S → Bool)
    (apart : AreApart step quiet ok fits) (are : AreWhole step quiet ok whole) (next : S → ℕ → Option S) (n : ℕ)
    (nexts : IsNext next step quiet ok whole fits n) (most : ℕ) where
  abbrev one : ℕ → S → S
  one l s = rest_one step quiet most l s

  abbrev first : ℕ → S → S
  first i s = rest_first step quiet most i s

  abbrev pub merge : S → S
  merge s = first n s

  abbrev pub to_go : S → ℕ → ℕ
  to_go s l = go step quiet ok whole fits apart are n most s l

  -- the edge of an actor is its step
  pub own_edge : (s t : S) (l : ℕ) → fits s ≡ true → l < n → next s l ≡ Some t → (ok s l ≡ true) × (step s l ≡ t)
  own_edge s t l fit low goes = elim (nexts.edge s t l fit goes) [
    | inl edge ↦ (edge.1, edge.2)
    | inr sweeping ↦ let high = sweeping.high in absurd (omega (arith, low, high))
  ]

  keeps : (s t : S) (l : ℕ) → fits s ≡ true → next s l ≡ Some t → fits t ≡ true
  keeps s t l fit goes = elim (nexts.edge s t l fit goes) [
    | inl edge ↦ subst (λ (x : S). fits x ≡ true) edge.2 (apart.keeps s l fit edge.1)
    | inr edge ↦ subst (λ (x : S). fits x ≡ true) edge.leads (edge.swept.keeps s fit)
  ]

  forth : (s t : S) (l : ℕ) → fits s ≡ true → next s l ≡ Some t →
      Stays n merge to_go s l t ⊎ ((u : S) × (next (merge s) l ≡ Some u) × (merge u ≡ merge t))
  forth s t l fit goes = elim (nexts.edge s t l fit goes) [
    | inl edge ↦ elim (moves_or_rests step quiet l most s) [
      | inl moves ↦
          let less = go_own step quiet ok whole fits apart are n most s moves.0 l moves.1 in
          inl (
            edge.0,
            sym (ap merge edge.2) ∙ stays step quiet ok fits apart most n l s moves.0 edge.0 fit moves.1,
            subst (λ (x : S). to_go x l < to_go s l) edge.2 less,
          )
      | inr rests ↦
          let stands = rests_before step quiet ok fits apart most l s fit rests in
          let may = may_rested step quiet ok fits apart most n l s fit stands ∙ edge.1 in
          inr (
            step (merge s) l,
            nexts.has (merge s) l (fits_first step quiet ok fits apart most s n fit) edge.0 may,
            rests_on step quiet ok fits apart most n n l s (omega arith) fit edge.1 stands ∙ ap merge edge.2,
          )
    ]
    | inr edge ↦
        inr (
          edge.sweep (merge s),
          edge.goes (merge s) (fits_first step quiet ok fits apart most s n fit),
          swept_on step quiet ok whole fits apart are n most edge.sweep edge.swept n s (omega arith) fit
              ∙ ap merge edge.leads,
        )
  ]

  falls : (s t : S) (l m : ℕ) → fits s ≡ true → next s l ≡ Some t → m < n → m ≢ l → to_go t m ≤ to_go s m
  falls s t l m fit goes low other = elim (nexts.edge s t l fit goes) [
    | inl edge ↦
        let same = go_other step quiet ok whole fits apart are n most s m l fit other edge.1 in
        let even : to_go t m ≡ to_go s m = sym (ap (λ (x : S). to_go x m) edge.2) ∙ same in
        omega (arith, even)
    | inr edge ↦
        let less = go_swept step quiet ok whole fits apart are n most edge.sweep edge.swept s m fit low in
        let even : to_go (edge.sweep s) m ≡ to_go t m = ap (λ (x : S). to_go x m) edge.leads in
        omega (arith, less, even)
  ]

  still : (s u : S) (l : ℕ) → fits s ≡ true → next (merge s) l ≡ Some u → l < n → (t : S) × (next s l ≡ Some t)
  still s u l fit goes low =
      let edge = own_edge (merge s) u l (fits_first step quiet ok fits apart most s n fit) low goes in
      elim (cases_Bool (ok s l)) [
        | inl may ↦ (step s l, nexts.has s l fit low may)
        | inr not_may ↦
            let loud : quiet s l ≡ false = elim (cases_Bool (quiet s l)) [
              | inl holds ↦ absurd (both_ways (ok s l) not_may (apart.quiet_may s l holds))
              | inr fails ↦ fails
            ] in
            let stands = rests_before step quiet ok fits apart most l s fit (inl loud) in
            let same = may_rested step quiet ok fits apart most n l s fit stands in
            absurd (both_ways (ok s l) not_may (sym same ∙ edge.0))
      ]

  -- an actor's quiet steps as a walk
  way_walk : (k l : ℕ) (s g : S) → fits s ≡ true → l < n → come step quiet l k s ≡ Some g →
      (ls : List ℕ) × IsWalk next s ls g
  way_walk zero l s g fit low is = elim (cases_Bool (quiet s l)) [
    | inl holds ↦ absurd (none-some g (sym (come_none step quiet l s holds) ∙ is))
    | inr fails ↦ ([], ap (λ (x : S). Some x) (stopped_at step quiet l 0 s g fails is))
  ]
  way_walk (suc k) l s g fit low is = elim (cases_Bool (quiet s l)) [
    | inl holds ↦
        let own = apart.quiet_may s l holds in
        let tail = way_walk k l (step s l) g (apart.keeps s l fit own) low
        (sym (come_on step quiet l k s holds) ∙ is) in
        (l ∷ tail.0, walk_from next s (step s l) g l tail.0 (nexts.has s l fit low own) tail.1)
    | inr fails ↦ ([], ap (λ (x : S). Some x) (stopped_at step quiet l (suc k) s g fails is))
  ]

  lead_one : (l : ℕ) (s : S) → fits s ≡ true → l < n → (ls : List ℕ) × IsWalk next s ls (one l s)
  lead_one l s fit low = elim (option_cases (come step quiet l most s)) [
    | inl none ↦ ([], ap (λ (x : S). Some x) (sym (rest_none step quiet l most s none)))
    | inr some ↦
        let walk = way_walk most l s some.0 fit low some.1 in (
          walk.0,
          subst (λ (x : S). IsWalk next s walk.0 x) (sym (rest_some step quiet l most s some.0 some.1)) walk.1,
        )
  ]

  lead_first : (i : ℕ) (s : S) → fits s ≡ true → i ≤ n → (ls : List ℕ) × IsWalk next s ls (first i s)
  unfolding rest_first
  lead_first zero s fit low = ([], refl)
  lead_first (suc i) s fit low =
      let before = lead_first i s fit (omega (arith, low)) in
      let last = lead_one i (first i s) (fits_first step quiet ok fits apart most s i fit) (omega (arith, low)) in
      (before.0 ++ last.0, walk_on next s (first i s) (one i (first i s)) before.0 last.0 before.1 last.1)

  leads : (s : S) → fits s ≡ true → (ls : List ℕ) × IsWalk next s ls (merge s)
  leads s fit = lead_first n s fit (omega arith)

  pub merging : IsMerging next n fits merge to_go
  merging = record {
    keeps = keeps;
    forth = forth;
    falls = falls;
    leads = leads;
    still = still;
  }
