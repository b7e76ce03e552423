-- The way of an actor to its rest.
use Rattle.std.proofs.Common.{◌≡◌, ℕ, zero, suc, ◌<◌, ◌≤◌, arith, ap, sym, ◌∙◌, refl, inl, inr, ◌⊎◌}
use Rattle.std.specs.Prelude.{Option, Some, None, Bool, true, false, unwrap_or}
use Rattle.std.proofs.lemmas.Bool.{cases_Bool}
use Rattle.std.proofs.lemmas.Option.{none-some, same_Some}
use Rattle.own_granules.specs.Rests.{come, rest_one, steps_to_rest}

pub option_cases : {S : Type 0} (o : Option S) → (o ≡ None) ⊎ ((s : S) × (o ≡ Some s))
option_cases None = inl refl
option_cases (Some s) = inr (s, refl)

module _ {S : Type 0} (step : S → ℕ → S) (quiet : S → ℕ → Bool) (l : ℕ) where
  abbrev way : ℕ → S → Option S
  way k s = come step quiet l k s

  abbrev steps : ℕ → S → ℕ
  steps k s = steps_to_rest step quiet l k s

  pub come_on : (k : ℕ) (s : S) → quiet s l ≡ true → way (suc k) s ≡ way k (step s l)
  unfolding come
  come_on k s holds = rw holds

  pub come_none : (s : S) → quiet s l ≡ true → way 0 s ≡ None
  unfolding come
  come_none s holds = rw holds

  pub come_stop : (k : ℕ) (s : S) → quiet s l ≡ false → way k s ≡ Some s
  unfolding come
  come_stop zero s fails = rw fails
  come_stop (suc k) s fails = rw fails

  pub come_more : (k : ℕ) (s g : S) → way k s ≡ Some g → way (suc k) s ≡ Some g
  come_more zero s g is = elim (cases_Bool (quiet s l)) [
    | inl holds ↦ absurd (none-some g (sym (come_none s holds) ∙ is))
    | inr fails ↦ come_stop 1 s fails ∙ (sym (come_stop 0 s fails) ∙ is)
  ]
  come_more (suc k) s g is = elim (cases_Bool (quiet s l)) [
    | inl holds ↦ come_on (suc k) s holds ∙ come_more k (step s l) g (sym (come_on k s holds) ∙ is)
    | inr fails ↦ come_stop (suc (suc k)) s fails ∙ (sym (come_stop (suc k) s fails) ∙ is)
  ]

  pub stopped_at : (k : ℕ) (s g : S) → quiet s l ≡ false → way k s ≡ Some g → s ≡ g
  stopped_at k s g fails is = same_Some s g (sym (come_stop k s fails) ∙ is)

  pub steps_on : (k : ℕ) (s : S) → quiet s l ≡ true → steps (suc k) s ≡ suc (steps k (step s l))
  unfolding steps_to_rest
  steps_on k s holds = rw holds

  pub steps_stop : (k : ℕ) (s : S) → quiet s l ≡ false → steps k s ≡ 0
  unfolding steps_to_rest
  steps_stop zero s fails = refl
  steps_stop (suc k) s fails = rw fails

  pub steps_few : (k : ℕ) (s : S) → steps k s ≤ k
  unfolding steps_to_rest
  steps_few zero s = omega arith
  steps_few (suc k) s = elim (cases_Bool (quiet s l)) [
    | inl holds ↦
        let one = steps_on k s holds in
        let few = steps_few k (step s l) in
        omega arith
    | inr fails ↦ let none = steps_stop (suc k) s fails in omega arith
  ]

  steps_more : (k : ℕ) (s g : S) → way k s ≡ Some g → steps (suc k) s ≡ steps k s
  steps_more zero s g is = elim (cases_Bool (quiet s l)) [
    | inl holds ↦ absurd (none-some g (sym (come_none s holds) ∙ is))
    | inr fails ↦ steps_stop 1 s fails ∙ sym (steps_stop 0 s fails)
  ]
  steps_more (suc k) s g is = elim (cases_Bool (quiet s l)) [
    | inl holds ↦
        steps_on (suc k) s holds ∙ (ap (λ (n : ℕ). suc n) (steps_more k (step s l) g (sym (come_on k s holds) ∙ is))
        ∙ sym (steps_on k s holds))
    | inr fails ↦ steps_stop (suc (suc k)) s fails ∙ sym (steps_stop (suc k) s fails)
  ]

  pub steps_less : (k : ℕ) (s g : S) → quiet s l ≡ true → way k s ≡ Some g → steps k (step s l) < steps k s
  steps_less zero s g holds is = absurd (none-some g (sym (come_none s holds) ∙ is))
  steps_less (suc k) s g holds is =
      let one = steps_on k s holds in
      let same = steps_more k (step s l) g (sym (come_on k s holds) ∙ is) in
      omega arith

  -- a quiet step goes on the way
  pub way_own : (k : ℕ) (s g : S) → quiet s l ≡ true → way k s ≡ Some g → way k (step s l) ≡ Some g
  way_own zero s g holds is = absurd (none-some g (sym (come_none s holds) ∙ is))
  way_own (suc k) s g holds is = come_more k (step s l) g (sym (come_on k s holds) ∙ is)

  module _ (most : ℕ) where
    abbrev pub rested : S → S
    rested s = rest_one step quiet most l s

    pub rest_none : (s : S) → way most s ≡ None → rested s ≡ s
    unfolding rest_one
    rest_none s is = ap (λ (o : Option S). unwrap_or o s) is

    pub rest_some : (s g : S) → way most s ≡ Some g → rested s ≡ g
    unfolding rest_one
    rest_some s g is = ap (λ (o : Option S). unwrap_or o s) is

    pub rest_still : (s : S) → quiet s l ≡ false → rested s ≡ s
    rest_still s fails = rest_some s s (come_stop most s fails)

    -- the actor's next step is quiet, and its quiet steps lead here
    abbrev pub Moves : S → S → Type 0
    Moves s g = (quiet s l ≡ true) × (way most s ≡ Some g)

    pub moves_or_rests : (s : S) → ((g : S) × Moves s g) ⊎ ((quiet s l ≡ false) ⊎ (way most s ≡ None))
    moves_or_rests s = elim (cases_Bool (quiet s l)) [
      | inl holds ↦ elim (option_cases (way most s)) [
        | inl none ↦ inr (inr none)
        | inr some ↦ inl (some.0, (holds, some.1))
      ]
      | inr fails ↦ inr (inl fails)
    ]

    pub rest_own : (s g : S) → Moves s g → rested (step s l) ≡ rested s
    rest_own s g moves =
        rest_some (step s l) g (way_own most s g moves.0 moves.1) ∙ sym (rest_some s g moves.1)
