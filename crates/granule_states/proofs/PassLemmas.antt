-- Steps that pass a test, on the way of an actor to its rest.
use Rattle.std.proofs.Common.{◌≡◌, ℕ, zero, suc, ◌+◌, ◌-◌, ◌≤◌, arith, refl, subst}
use Rattle.std.specs.Prelude.{Bool, true, false}
use Rattle.own_granules.specs.Rests.{way_passes, ways_pass, rest_first}

module _ {S : Type 0} (step : S → ℕ → S) (quiet passes : S → ℕ → Bool) (l most : ℕ) where
  abbrev ways : ℕ → S → Bool
  ways k s = way_passes step quiet passes l k s

  -- the way passes if what is left of it does, after so many quiet steps
  abbrev pub Left : S → ℕ → S → Type 0
  Left s k t = (k ≤ most → ways (most - k) t ≡ true) → ways most s ≡ true

  pub left_begun : (s : S) → Left s 0 s
  left_begun s rest =
      let same : most - 0 ≡ most = omega arith in
      subst (λ (k : ℕ). ways k s ≡ true) same (rest (omega arith))

  way_on : (k : ℕ) (t : S) → quiet t l ≡ true → passes t l ≡ true → ways k (step t l) ≡ true → ways (suc k) t ≡ true
  unfolding way_passes
  way_on k t holds pass rest = rw (holds, pass, rest) refl

  way_last : (t : S) → quiet t l ≡ true → passes t l ≡ true → ways 0 t ≡ true
  unfolding way_passes
  way_last t holds pass = rw (holds, pass) refl

  way_none : (k : ℕ) (t : S) → quiet t l ≡ false → ways k t ≡ true
  unfolding way_passes
  way_none zero t fails = rw fails refl
  way_none (suc k) t fails = rw fails refl

  more : (j : ℕ) (k : ℕ) (t : S) → most - k ≡ j → k ≤ most → quiet t l ≡ true → passes t l ≡ true →
      (k + 1 ≤ most → ways (most - (k + 1)) (step t l) ≡ true) → ways j t ≡ true
  more zero k t left within holds pass rest = way_last t holds pass
  more (suc j) k t left within holds pass rest =
      let next : most - (k + 1) ≡ j = omega arith in
      way_on j t holds pass (subst (λ (n : ℕ). ways n (step t l) ≡ true) next (rest (omega arith)))

  pub left_more : (s t : S) (k : ℕ) → Left s k t → quiet t l ≡ true → passes t l ≡ true → Left s (k + 1) (step t l)
  left_more s t k was holds pass rest = was (λ within. more (most - k) k t refl within holds pass rest)

  pub left_ends : (s t : S) (k : ℕ) → Left s k t → quiet t l ≡ false → ways most s ≡ true
  left_ends s t k was fails = was (λ within. way_none (most - k) t fails)

  pub left_done : (s t : S) (k : ℕ) → Left s k t → most + 1 ≤ k → ways most s ≡ true
  left_done s t k was past = was (λ within. absurd (omega arith))

-- one actor more
pub ways_on : {S : Type 0} (step : S → ℕ → S) (quiet passes : S → ℕ → Bool) (most i : ℕ) (s : S) →
    ways_pass step quiet passes most i s ≡ true →
    way_passes step quiet passes i most (rest_first step quiet most i s) ≡ true →
    ways_pass step quiet passes most (suc i) s ≡ true
unfolding ways_pass
ways_on step quiet passes most i s first one = rw (first, one) refl
