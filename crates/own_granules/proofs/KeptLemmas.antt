-- Memories in which there is nothing for sweeps in granules that aren't shared.
use Rattle.std.proofs.Common.{◌≡◌, ℕ, zero, suc, ◌+◌, List, [], ◌∷◌, map, set, arith, ap, sym, ◌∙◌, refl, inl, inr, subst}
use Rattle.std.specs.Prelude.{Option, Some, Bool, true, false, not, ◌&&◌, ◌||◌, slice_get}
use Rattle.std.proofs.lemmas.Bool.{and_parts, and_from, or_cases, or_left, or_right, both_ways, not-true}
use Rattle.std.proofs.lemmas.Option.{none-some, same_Some}
use Rattle.cap_model.specs.results.Swept.{is_in_sweep, swept}
use Rattle.cap_model.specs.values.CapValue.{CapValue}
use Rattle.cheri_model.specs.runs.Image.{ImageParts}
use Rattle.cheri_model.specs.runs.Machine.{MachineState, hart_at}
use Rattle.cheri_model.specs.steps.Memory.{granule_at}
use Rattle.explore_turns.specs.QuietSteps.{asks_memory}
use Rattle.own_granules.specs.Granules.{granule_of, is_kept, are_kept, leaves_kept, respects, respects_in}
use Rattle.schedules.specs.declared.ranges.SweepRange.{SweepRange}

module _ (sweeps : List SweepRange) (shared : ℕ → Bool) where
  -- another value in its place
  pub kept_set : (j k : ℕ) (m : List CapValue) (v : CapValue) → are_kept sweeps shared j m ≡ true →
      shared (j + k) || is_kept sweeps v ≡ true → are_kept sweeps shared j (set m k v) ≡ true
  unfolding are_kept
  kept_set j k [] v kept there = refl
  kept_set j zero (w ∷ m) v kept there =
      let same : j + 0 ≡ j = omega arith in
      let parts = and_parts (shared j || is_kept sweeps w) (are_kept sweeps shared (suc j) m) kept in
      and_from (shared j || is_kept sweeps v) (are_kept sweeps shared (suc j) m)
      (subst (λ (i : ℕ). shared i || is_kept sweeps v ≡ true) same there) parts.1
  kept_set j (suc k) (w ∷ m) v kept there =
      let same : j + suc k ≡ suc j + k = omega arith in
      let parts = and_parts (shared j || is_kept sweeps w) (are_kept sweeps shared (suc j) m) kept in
      and_from (shared j || is_kept sweeps w) (are_kept sweeps shared (suc j) (set m k v)) parts.0
      (kept_set (suc j) k m v parts.1 (subst (λ (i : ℕ). shared i || is_kept sweeps v ≡ true) same there))

-- a value that no sweep of these clears is not in their ranges
pub kept_range : (sweeps : List SweepRange) (i : ℕ) (range : SweepRange) (v : CapValue) →
    slice_get sweeps i ≡ Some range → is_kept sweeps v ≡ true → is_in_sweep range.lo range.hi v ≡ false
unfolding is_kept
kept_range [] i range v there kept = absurd (none-some range there)
kept_range (x ∷ sweeps) zero range v there kept =
    let parts = and_parts (not (is_in_sweep x.lo x.hi v)) (is_kept sweeps v) kept in
    subst (λ (r : SweepRange). is_in_sweep r.lo r.hi v ≡ false) (same_Some x range there)
    (not-true (is_in_sweep x.lo x.hi v) parts.0)
kept_range (x ∷ sweeps) (suc i) range v there kept =
    let parts = and_parts (not (is_in_sweep x.lo x.hi v)) (is_kept sweeps v) kept in
    kept_range sweeps i range v there parts.1

swept_same : (lo hi : ℕ) (v : CapValue) → is_in_sweep lo hi v ≡ false → swept lo hi v ≡ v
unfolding swept
swept_same lo hi v out = rw out

module _ (sweeps : List SweepRange) (shared : ℕ → Bool) (i : ℕ) (range : SweepRange)
    (there : slice_get sweeps i ≡ Some range) where
  abbrev clear : CapValue → CapValue
  clear v = swept range.lo range.hi v

  pub kept_stays : (v : CapValue) → is_kept sweeps v ≡ true → clear v ≡ v
  kept_stays v kept = swept_same range.lo range.hi v (kept_range sweeps i range v there kept)

  kept_clear : (k : ℕ) (v : CapValue) → shared k || is_kept sweeps v ≡ true →
      shared k || is_kept sweeps (clear v) ≡ true
  kept_clear k v holds = elim (or_cases (shared k) (is_kept sweeps v) holds) [
    | inl others ↦ or_left (shared k) (is_kept sweeps (clear v)) others
    | inr kept ↦ or_right (shared k) (is_kept sweeps (clear v)) (ap (is_kept sweeps) (kept_stays v kept) ∙ kept)
  ]

  pub kept_swept : (j : ℕ) (m : List CapValue) → are_kept sweeps shared j m ≡ true →
      are_kept sweeps shared j (map clear m) ≡ true
  unfolding are_kept
  kept_swept j [] kept = refl
  kept_swept j (v ∷ m) kept =
      let parts = and_parts (shared j || is_kept sweeps v) (are_kept sweeps shared (suc j) m) kept in
      and_from (shared j || is_kept sweeps (clear v)) (are_kept sweeps shared (suc j) (map clear m))
      (kept_clear j v parts.0) (kept_swept (suc j) m parts.1)

  -- a sweep leaves the granules that aren't shared
  pub granule_kept : (j k : ℕ) (m : List CapValue) → are_kept sweeps shared j m ≡ true → shared (j + k) ≡ false →
      granule_at (map clear m) k ≡ granule_at m k
  unfolding granule_at are_kept
  granule_kept j k [] kept own = refl
  granule_kept j zero (v ∷ m) kept own =
      let same : j + 0 ≡ j = omega arith in
      let parts = and_parts (shared j || is_kept sweeps v) (are_kept sweeps shared (suc j) m) kept in
      elim (or_cases (shared j) (is_kept sweeps v) parts.0) [
        | inl others ↦ absurd (both_ways (shared j) (sym (ap shared same) ∙ own) others)
        | inr held ↦ kept_stays v held
      ]
  granule_kept j (suc k) (v ∷ m) kept own =
      let same : j + suc k ≡ suc j + k = omega arith in
      let parts = and_parts (shared j || is_kept sweeps v) (are_kept sweeps shared (suc j) m) kept in
      granule_kept (suc j) k m parts.1 (sym (ap shared same) ∙ own)

-- where there are no sweeps, there is nothing for them
pub none_kept : (shared : ℕ → Bool) (k : ℕ) (m : List CapValue) → are_kept [] shared k m ≡ true
unfolding are_kept is_kept
none_kept shared k [] = refl
none_kept shared k (v ∷ m) =
    and_from (shared k || true) (are_kept [] shared (suc k) m) (or_right (shared k) true refl)
    (none_kept shared (suc k) m)

and_true : (b : Bool) → (b && true) ≡ b
and_true true = refl
and_true false = refl

pub none_left : (image : ImageParts) (shared : ℕ → Bool) (owner : ℕ → Option ℕ) (s : MachineState) (l : ℕ) →
    respects_in image [] shared owner s l ≡ respects image shared owner l (hart_at s l)
unfolding leaves_kept is_kept
none_left image shared owner s l =
    let h = hart_at s l in
    let private : shared (granule_of image h) || true ≡ true = or_right (shared (granule_of image h)) true refl in
    let all : not (asks_memory image.program h) || (shared (granule_of image h) || true) ≡ true =
    or_right (not (asks_memory image.program h)) (shared (granule_of image h) || true) private in
    ap (λ (b : Bool). respects image shared owner l h && b) all ∙ and_true (respects image shared owner l h)
