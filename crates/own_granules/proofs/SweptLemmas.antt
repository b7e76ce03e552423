-- Edges of no actor, such as sweeps, beside the ways of actors that they leave whole.
use Rattle.std.proofs.Common.{◌≡◌, ◌≢◌, ℕ, zero, suc, ◌<◌, ◌≤◌, arith, ap, sym, ◌∙◌, refl, inl, inr, cond}
use Rattle.std.specs.Prelude.{Option, option_map, Bool, true, false}
use Rattle.std.proofs.lemmas.Bool.{cases_Bool, both_ways}
use Rattle.own_granules.specs.Rests.{come, rest_one, rest_first, steps_to_rest}
use Rattle.own_granules.proofs.WayLemmas.{Moves, option_cases, come_on, come_none, come_stop, steps_on, steps_stop, steps_few, steps_less, rest_none, rest_some, rest_still}
use Rattle.own_granules.proofs.ApartLemmas.{AreApart, same_steps, fits_first, absorbed}

-- which actors such edges leave whole: those that have quiet steps, before them and after them
pub record AreWhole {S : Type 0} (step : S → ℕ → S) (quiet ok whole : S → ℕ → Bool) : Type 0 where
  pub quiet_whole : (s : S) (l : ℕ) → quiet s l ≡ true → whole s l ≡ true
  pub whole_after : (s : S) (l : ℕ) → quiet s l ≡ true → whole (step s l) l ≡ true
  pub same_whole : (s : S) (l m : ℕ) → l ≢ m → whole (step s m) l ≡ whole s l

-- where such an edge leads, from each state
pub record IsSwept {S : Type 0} (step : S → ℕ → S) (quiet whole : S → ℕ → Bool) (fits : S → Bool) (n : ℕ)
    (sweep : S → S) : Type 0 where
  pub keeps : (s : S) → fits s ≡ true → fits (sweep s) ≡ true
  pub still_quiet : (s : S) (l : ℕ) → fits s ≡ true → l < n → whole s l ≡ true → quiet (sweep s) l ≡ quiet s l
  pub still_whole : (s : S) (l : ℕ) → fits s ≡ true → l < n → whole s l ≡ true → whole (sweep s) l ≡ true
  pub steps_too : (s : S) (l : ℕ) → fits s ≡ true → l < n → quiet s l ≡ true → sweep (step s l) ≡ step (sweep s) l

module _ {S : Type 0} (step : S → ℕ → S) (quiet ok whole : S → ℕ → Bool) (fits : S → Bool)
    (apart : AreApart step quiet ok fits) (are : AreWhole step quiet ok whole) (n most : ℕ) where
  abbrev way : ℕ → ℕ → S → Option S
  way l k s = come step quiet l k s

  abbrev one : ℕ → S → S
  one l s = rest_one step quiet most l s

  abbrev first : ℕ → S → S
  first i s = rest_first step quiet most i s

  abbrev steps : ℕ → ℕ → S → ℕ
  steps l k s = steps_to_rest step quiet l k s

  loud : (s : S) (l : ℕ) → whole s l ≡ false → quiet s l ≡ false
  loud s l broken = elim (cases_Bool (quiet s l)) [
    | inl holds ↦ absurd (both_ways (whole s l) broken (are.quiet_whole s l holds))
    | inr fails ↦ fails
  ]

  -- how many quiet steps an actor has to go; more than any where such an edge can change it
  pub go : S → ℕ → ℕ
  go s l = cond (whole s l) (steps l most s) (suc most)

  go_whole : (s : S) (l : ℕ) → whole s l ≡ true → go s l ≡ steps l most s
  unfolding go
  go_whole s l holds = rw holds

  go_broken : (s : S) (l : ℕ) → whole s l ≡ false → go s l ≡ suc most
  unfolding go
  go_broken s l broken = rw broken

  pub go_few : (s : S) (l : ℕ) → go s l ≤ suc most
  go_few s l = elim (cases_Bool (whole s l)) [
    | inl holds ↦
        let e = go_whole s l holds in
        let few = steps_few step quiet l most s in
        omega (arith, e, few)
    | inr broken ↦ let e = go_broken s l broken in omega (arith, e)
  ]

  pub go_own : (s g : S) (l : ℕ) → Moves step quiet l most s g → go (step s l) l < go s l
  go_own s g l moves =
      let before = go_whole s l (are.quiet_whole s l moves.0) in
      let after = go_whole (step s l) l (are.whole_after s l moves.0) in
      let less = steps_less step quiet l most s g moves.0 moves.1 in
      omega (arith, before, after, less)

  pub go_other : (s : S) (l m : ℕ) → fits s ≡ true → l ≢ m → ok s m ≡ true → go (step s m) l ≡ go s l
  go_other s l m fit other may = elim (cases_Bool (whole s l)) [
    | inl holds ↦
        go_whole (step s m) l (are.same_whole s l m other ∙ holds)
        ∙ (same_steps step quiet ok fits apart most most s l m fit other may ∙ sym (go_whole s l holds))
    | inr broken ↦ go_broken (step s m) l (are.same_whole s l m other ∙ broken) ∙ sym (go_broken s l broken)
  ]

  module _ (sweep : S → S) (swept : IsSwept step quiet whole fits n sweep) where
    swept_way : (k : ℕ) (s : S) (l : ℕ) → fits s ≡ true → l < n → whole s l ≡ true →
        way l k (sweep s) ≡ option_map sweep (way l k s)
    swept_way zero s l fit low holds =
        let same = swept.still_quiet s l fit low holds in
        elim (cases_Bool (quiet s l)) [
          | inl moves ↦
              come_none step quiet l (sweep s) (same ∙ moves)
              ∙ sym (ap (option_map sweep) (come_none step quiet l s moves))
          | inr fails ↦
              come_stop step quiet l 0 (sweep s) (same ∙ fails)
              ∙ sym (ap (option_map sweep) (come_stop step quiet l 0 s fails))
        ]
    swept_way (suc k) s l fit low holds =
        let same = swept.still_quiet s l fit low holds in
        elim (cases_Bool (quiet s l)) [
          | inl moves ↦
              come_on step quiet l k (sweep s) (same ∙ moves)
              ∙ (ap (way l k) (sym (swept.steps_too s l fit low moves))
              ∙ (swept_way k (step s l) l (apart.keeps s l fit (apart.quiet_may s l moves)) low
              (are.whole_after s l moves)
              ∙ sym (ap (option_map sweep) (come_on step quiet l k s moves))))
          | inr fails ↦
              come_stop step quiet l (suc k) (sweep s) (same ∙ fails)
              ∙ sym (ap (option_map sweep) (come_stop step quiet l (suc k) s fails))
        ]

    swept_steps : (k : ℕ) (s : S) (l : ℕ) → fits s ≡ true → l < n → whole s l ≡ true →
        steps l k (sweep s) ≡ steps l k s
    unfolding steps_to_rest
    swept_steps zero s l fit low holds = refl
    swept_steps (suc k) s l fit low holds =
        let same = swept.still_quiet s l fit low holds in
        elim (cases_Bool (quiet s l)) [
          | inl moves ↦
              steps_on step quiet l k (sweep s) (same ∙ moves)
              ∙ (ap (λ (x : S). suc (steps l k x)) (sym (swept.steps_too s l fit low moves))
              ∙ (ap (λ (i : ℕ). suc i)
              (swept_steps k (step s l) l (apart.keeps s l fit (apart.quiet_may s l moves)) low
              (are.whole_after s l moves))
              ∙ sym (steps_on step quiet l k s moves)))
          | inr fails ↦
              steps_stop step quiet l (suc k) (sweep s) (same ∙ fails) ∙ sym (steps_stop step quiet l (suc k) s fails)
        ]

    swept_one : (s : S) (l : ℕ) → fits s ≡ true → l < n → whole s l ≡ true → one l (sweep s) ≡ sweep (one l s)
    swept_one s l fit low holds =
        let moved = swept_way most s l fit low holds in
        elim (option_cases (way l most s)) [
          | inl none ↦
              rest_none step quiet l most (sweep s) (moved ∙ ap (option_map sweep) none)
              ∙ sym (ap sweep (rest_none step quiet l most s none))
          | inr some ↦
              rest_some step quiet l most (sweep s) (sweep some.0) (moved ∙ ap (option_map sweep) some.1)
              ∙ sym (ap sweep (rest_some step quiet l most s some.0 some.1))
        ]

    -- from where all are at their rest, such an edge leads on as from before
    pub swept_on : (i : ℕ) (s : S) → i ≤ n → fits s ≡ true → first n (sweep (first i s)) ≡ first n (sweep s)
    unfolding rest_first
    swept_on zero s low fit = refl
    swept_on (suc i) s low fit =
        let there = first i s in
        let below : i < n = omega (arith, low) in
        let fit_there = fits_first step quiet ok fits apart most s i fit in
        let rest = swept_on i s (omega (arith, low)) fit in
        elim (cases_Bool (whole there i)) [
          | inl holds ↦
              ap (first n) (sym (swept_one there i fit_there below holds))
              ∙ (absorbed step quiet ok fits apart most n i (sweep there) below (swept.keeps there fit_there) ∙ rest)
          | inr broken ↦
              ap (λ (x : S). first n (sweep x)) (rest_still step quiet i most there (loud there i broken)) ∙ rest
        ]

    pub go_swept : (s : S) (l : ℕ) → fits s ≡ true → l < n → go (sweep s) l ≤ go s l
    go_swept s l fit low = elim (cases_Bool (whole s l)) [
      | inl holds ↦
          let e = go_whole (sweep s) l (swept.still_whole s l fit low holds)
          ∙ (swept_steps most s l fit low holds ∙ sym (go_whole s l holds)) in
          omega (arith, e)
      | inr broken ↦
          let e = go_broken s l broken in
          let few = go_few (sweep s) l in
          omega (arith, e, few)
    ]
