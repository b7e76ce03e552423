-- Steps of two harts that respect owners come in any order, where one of them is private.
use Rattle.std.proofs.Common.{◌≡◌, ◌≢◌, ℕ, ◌<◌, List, length, ap, sym, ◌∙◌, inl, inr, subst}
use Rattle.std.specs.Prelude.{Option, Some, None, Bool, true, false, not}
use Rattle.std.proofs.lemmas.Bool.{cases_Bool, cases_eq, eqb-true, not-true}
use Rattle.cheri_model.specs.runs.Image.{ImageParts}
use Rattle.cap_model.specs.values.CapValue.{CapValue}
use Rattle.cheri_model.specs.steps.Hart.{HartState}
use Rattle.cheri_model.specs.steps.Memory.{granule_at}
use Rattle.explore_turns.proofs.QuietLemmas.{own_step_alone}
use Rattle.explore_turns.specs.QuietSteps.{asks_memory}
use Rattle.own_granules.specs.Granules.{asks_store, granules_of, granule_of, is_private, may_touch, respects}
use Rattle.own_granules.proofs.StepLemmas.{InAnyOrder, alone, other_alone, both_load, elsewhere, granule_left, loads_leave, memory_of}

-- two harts may touch a granule only where neither stores
both_may : (o : Option ℕ) (l m : ℕ) (a b : Bool) → l ≢ m → may_touch o l a ≡ true → may_touch o m b ≡ true →
    (a ≡ false) × (b ≡ false)
both_may None l m a b other one two = (not-true a one, not-true b two)
both_may (Some owner) l m a b other one two =
    absurd (other (sym (eqb-true owner l one) ∙ eqb-true owner m two))

module _ (image : ImageParts) (shared : ℕ → Bool) (owner : ℕ → Option ℕ) where
  pub private_granule : (h : HartState) → asks_memory image.program h ≡ true → is_private image shared h ≡ true →
      shared (granule_of image h) ≡ false
  unfolding is_private
  private_granule h asks free =
      let b : not (shared (granule_of image h)) ≡ true = rw asks at free in
      not-true (shared (granule_of image h)) b

  owned_granule : (l : ℕ) (h : HartState) → asks_memory image.program h ≡ true →
      shared (granule_of image h) ≡ false → respects image shared owner l h ≡ true →
      may_touch (owner (granule_of image h)) l (asks_store image.program h) ≡ true
  unfolding respects
  owned_granule l h asks own fair = rw (asks, own) at fair

  pub any_order : (l m : ℕ) (h g : HartState) → (some : 0 < granules_of image) → l ≢ m →
      is_private image shared h ≡ true → respects image shared owner l h ≡ true →
      respects image shared owner m g ≡ true → InAnyOrder image.program (granules_of image) some h g
  any_order l m h g some other free one two =
      let program = image.program in
      let n = granules_of image in
      elim (cases_Bool (asks_memory program h)) [
        | inr none ↦ alone program n some h g none
        | inl asks ↦ elim (cases_Bool (asks_memory program g)) [
          | inr none ↦ other_alone program n some h g none
          | inl also ↦ elim (cases_eq (granule_of image h) (granule_of image g)) [
            | inr apart ↦ elsewhere program n some h g apart
            | inl same ↦
                let own = private_granule h asks free in
                let own_too : shared (granule_of image g) ≡ false = sym (ap shared same) ∙ own in
                let may = owned_granule l h asks own one in
                let may_too = owned_granule m g also own_too two in
                let here = subst (λ (k : ℕ). may_touch (owner k) m (asks_store program g) ≡ true) (sym same) may_too in
                let loads = both_may (owner (granule_of image h)) l m (asks_store program h) (asks_store program g)
                other may here in
                both_load program n some h g loads.0 loads.1
          ]
        ]
      ]

  -- such a step of another hart leaves the granule that a hart touches
  pub granule_stays : (l m : ℕ) (h g : HartState) → (some : 0 < granules_of image) → l ≢ m →
      asks_memory image.program h ≡ true → shared (granule_of image h) ≡ false →
      respects image shared owner l h ≡ true → respects image shared owner m g ≡ true →
      (k : List CapValue) → length k ≡ granules_of image →
      granule_at (memory_of image.program (granules_of image) some g k) (granule_of image h)
      ≡ granule_at k (granule_of image h)
  granule_stays l m h g some other asks own one two k size =
      let program = image.program in
      let n = granules_of image in
      let at : List CapValue → CapValue = λ x. granule_at x (granule_of image h) in
      elim (cases_Bool (asks_memory program g)) [
        | inr none ↦ ap at (own_step_alone program g k none).1
        | inl also ↦ elim (cases_eq (granule_of image h) (granule_of image g)) [
          | inr apart ↦ granule_left program n some h g k size apart
          | inl same ↦
              let own_too : shared (granule_of image g) ≡ false = sym (ap shared same) ∙ own in
              let may = owned_granule l h asks own one in
              let may_too = owned_granule m g also own_too two in
              let here = subst (λ (i : ℕ). may_touch (owner i) m (asks_store program g) ≡ true) (sym same) may_too in
              let loads = both_may (owner (granule_of image h)) l m (asks_store program h) (asks_store program g)
              other may here in
              ap at (loads_leave program g k loads.1)
        ]
      ]
