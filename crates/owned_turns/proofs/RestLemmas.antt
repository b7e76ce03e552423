-- Rests of states that forget to be the same, in any graph where what they forget makes no
-- difference to quiet steps.
use Rattle.std.proofs.Common.{◌≡◌, ℕ, zero, suc, refl, sym, ap, ◌∙◌, inl, inr}
use Rattle.std.specs.Prelude.{nat_lt, Bool, true, false, ◌&&◌, Option, Some, None, option_map, unwrap_or}
use Rattle.std.proofs.lemmas.Bool.{cases_Bool}
use Rattle.own_granules.specs.Rests.{come, rest_one, rest_first, rest_after, way_passes, ways_pass, after_passes}
use Rattle.own_granules.proofs.WayLemmas.{come_on, come_none, come_stop}

-- What is so of a function by which states forget: a step is quiet where it was, and leads to a
-- state that forgets to be what the state after it forgets to be.
pub record Forgets {S : Type 0} (step : S → ℕ → S) (quiet : S → ℕ → Bool) (forget : S → S) : Type 0 where
  pub quiets : (s : S) (l : ℕ) → quiet (forget s) l ≡ quiet s l
  pub steps : (s : S) (l : ℕ) → quiet s l ≡ true → forget (step (forget s) l) ≡ forget (step s l)

unwrap_forgets : {S : Type 0} (forget : S → S) (o : Option S) (s : S) →
    forget (unwrap_or o s) ≡ unwrap_or (option_map forget o) (forget s)
unwrap_forgets forget None s = refl
unwrap_forgets forget (Some t) s = refl

module _ {S : Type 0} (step : S → ℕ → S) (quiet : S → ℕ → Bool) (forget : S → S)
    (forgets : Forgets step quiet forget) where
  quiet_alike : (s t : S) (l : ℕ) → forget s ≡ forget t → quiet s l ≡ quiet t l
  quiet_alike s t l same =
      sym (forgets.quiets s l) ∙ (ap (λ (x : S). quiet x l) same ∙ forgets.quiets t l)

  step_alike : (s t : S) (l : ℕ) → forget s ≡ forget t → quiet s l ≡ true → quiet t l ≡ true →
      forget (step s l) ≡ forget (step t l)
  step_alike s t l same one two =
      sym (forgets.steps s l one) ∙ (ap (λ (x : S). forget (step x l)) same ∙ forgets.steps t l two)

  -- ---- rests

  abbrev way : ℕ → ℕ → S → Option S
  way l k s = option_map forget (come step quiet l k s)

  come_alike : (k : ℕ) (s t : S) (l : ℕ) → forget s ≡ forget t → way l k s ≡ way l k t
  come_alike zero s t l same =
      let alike : quiet s l ≡ quiet t l = quiet_alike s t l same in
      elim (cases_Bool (quiet t l)) [
        | inl holds ↦
            ap (option_map forget) (come_none step quiet l s (alike ∙ holds))
            ∙ sym (ap (option_map forget) (come_none step quiet l t holds))
        | inr fails ↦
            ap (option_map forget) (come_stop step quiet l 0 s (alike ∙ fails))
            ∙ (ap (λ (x : S). Some x) same ∙ sym (ap (option_map forget) (come_stop step quiet l 0 t fails)))
      ]
  come_alike (suc k) s t l same =
      let alike : quiet s l ≡ quiet t l = quiet_alike s t l same in
      elim (cases_Bool (quiet t l)) [
        | inl holds ↦
            ap (option_map forget) (come_on step quiet l k s (alike ∙ holds))
            ∙ (come_alike k (step s l) (step t l) l (step_alike s t l same (alike ∙ holds) holds)
            ∙ sym (ap (option_map forget) (come_on step quiet l k t holds)))
        | inr fails ↦
            ap (option_map forget) (come_stop step quiet l (suc k) s (alike ∙ fails))
            ∙ (ap (λ (x : S). Some x) same ∙ sym (ap (option_map forget) (come_stop step quiet l (suc k) t fails)))
      ]

  module _ (most : ℕ) where
    pub one_alike : (s t : S) (l : ℕ) → forget s ≡ forget t →
        forget (rest_one step quiet most l s) ≡ forget (rest_one step quiet most l t)
    unfolding rest_one
    one_alike s t l same =
        unwrap_forgets forget (come step quiet l most s) s
        ∙ (ap (λ (o : Option S). unwrap_or o (forget s)) (come_alike most s t l same)
        ∙ (ap (λ (x : S). unwrap_or (way l most t) x) same
        ∙ sym (unwrap_forgets forget (come step quiet l most t) t)))

    pub first_alike : (i : ℕ) (s t : S) → forget s ≡ forget t →
        forget (rest_first step quiet most i s) ≡ forget (rest_first step quiet most i t)
    unfolding rest_first
    first_alike zero s t same = same
    first_alike (suc i) s t same =
        one_alike (rest_first step quiet most i s) (rest_first step quiet most i t) i (first_alike i s t same)

    pub after_alike : (actors l : ℕ) (s t : S) → forget s ≡ forget t →
        forget (rest_after step quiet most actors l s) ≡ forget (rest_after step quiet most actors l t)
    unfolding rest_after
    after_alike actors l s t same = elim (cases_Bool (nat_lt l actors)) [
      | inl own ↦ rw own (one_alike s t l same)
      | inr past ↦ rw past (first_alike actors s t same)
    ]

  -- ---- a test of quiet steps that passes where the state has forgotten just where it passes there

  module _ (passes : S → ℕ → Bool)
      (passed : (s : S) (l : ℕ) → quiet s l ≡ true → passes (forget s) l ≡ passes s l) (most : ℕ) where
    pass_alike : (s t : S) (l : ℕ) → forget s ≡ forget t → quiet s l ≡ true → quiet t l ≡ true →
        passes s l ≡ passes t l
    pass_alike s t l same one two =
        sym (passed s l one) ∙ (ap (λ (x : S). passes x l) same ∙ passed t l two)

    way_alike : (k : ℕ) (s t : S) (l : ℕ) → forget s ≡ forget t →
        way_passes step quiet passes l k s ≡ way_passes step quiet passes l k t
    unfolding way_passes
    way_alike zero s t l same =
        let alike : quiet s l ≡ quiet t l = quiet_alike s t l same in
        elim (cases_Bool (quiet t l)) [
          | inl holds ↦ let one : quiet s l ≡ true = alike ∙ holds in rw (one, holds) (pass_alike s t l same one holds)
          | inr fails ↦ let one : quiet s l ≡ false = alike ∙ fails in rw (one, fails) refl
        ]
    way_alike (suc k) s t l same =
        let alike : quiet s l ≡ quiet t l = quiet_alike s t l same in
        elim (cases_Bool (quiet t l)) [
          | inl holds ↦
              let one : quiet s l ≡ true = alike ∙ holds in
              rw (one, holds)
              (ap (λ (b : Bool). b && way_passes step quiet passes l k (step s l)) (pass_alike s t l same one holds)
              ∙ ap (λ (b : Bool). passes t l && b)
              (way_alike k (step s l) (step t l) l (step_alike s t l same one holds)))
          | inr fails ↦ let one : quiet s l ≡ false = alike ∙ fails in rw (one, fails) refl
        ]

    ways_alike : (i : ℕ) (s t : S) → forget s ≡ forget t →
        ways_pass step quiet passes most i s ≡ ways_pass step quiet passes most i t
    unfolding ways_pass
    ways_alike zero s t same = refl
    ways_alike (suc i) s t same =
        let here = rest_first step quiet most i s in
        let there = rest_first step quiet most i t in
        ap (λ (b : Bool). b && way_passes step quiet passes i most here) (ways_alike i s t same)
        ∙ ap (λ (b : Bool). ways_pass step quiet passes most i t && b)
        (way_alike most here there i (first_alike most i s t same))

    pub passes_alike : (actors l : ℕ) (s t : S) → forget s ≡ forget t →
        after_passes step quiet passes most actors l s ≡ after_passes step quiet passes most actors l t
    unfolding after_passes
    passes_alike actors l s t same = elim (cases_Bool (nat_lt l actors)) [
      | inl own ↦ rw own (way_alike most s t l same)
      | inr past ↦ rw past (ways_alike actors s t same)
    ]
