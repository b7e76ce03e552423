-- A sweep lists the places that lose their tag, and as many of them as it clears tags.
use Rattle.std.proofs.Common.{◌≡◌, ℕ, ◌+◌, ◌<◌, ◌≤◌, Bool, true, false, cond, List, [], ◌∷◌, length, take, refl, sym, ap, ◌∙◌, subst, arith, zero, suc, inl, inr}
use Rattle.std.specs.Prelude.{if◌then◌else◌, count_by, sum_by, slice_index_or, Contains, All}
use Rattle.std.proofs.Math.ListN.{get_or-map}
use Rattle.std.proofs.Math.Numerals.{add-one}
use Rattle.std.proofs.lemmas.Bool.{cases_Bool, cases_eq, cases_lt, false≢true}
use Rattle.std.proofs.lemmas.List.{length-append, get_or_past, take_all}
use Rattle.std.proofs.lemmas.List.Elements.{All-nil, All-cons, All-append, All-contains, Contains-push, Contains-append_left, Contains-append_right}
use Rattle.std.proofs.lemmas.List.Sums.{sum_by-cons, sum_by_more}
use Rattle.cap_model.specs.values.CapValue.{CapValue, valid, raw, tag_of}
use Rattle.cap_model.specs.results.Swept.{is_in_sweep, swept}
use Rattle.cheri_model.specs.steps.Hart.{HartState, null, register}
use Rattle.cheri_model.specs.steps.Memory.{granule_at}
use Rattle.cheri_model.specs.runs.Sweeps.{swept_hart, swept_memory, cleared_in_hart, cleared_in_memory}
use Rattle.cheri_model.specs.runs.Machine.{MachineState, no_hart, hart_at, swept_state, cleared}
use Rattle.origins.specs.declared.place.Place.{Place}
use Rattle.origins.specs.declared.place.Place.TheVariants.{PccOf, RegisterOf, GranuleOf}
use Rattle.origins.specs.Places.{value_in}
use Rattle.facts.specs.EventFacts.{swept_among, swept_in_hart, swept_in_harts, swept_places}
use Rattle.facts.specs.SweepLaw.{HaveRegisters, AreTagsLost}

module _ (lo hi : ℕ) where
  -- ---- one value

  tag_lost : (v : CapValue) → is_in_sweep lo hi v ≡ true → (tag_of v ≡ true) × (tag_of (swept lo hi v) ≡ false)
  unfolding swept
  tag_lost (valid c) is = (refl, rw is refl)
  tag_lost (raw word) is = absurd (cc)

  lost_swept : (v : CapValue) → tag_of v ≡ true → tag_of (swept lo hi v) ≡ false → is_in_sweep lo hi v ≡ true
  unfolding swept
  lost_swept (valid c) before after = elim (cases_Bool (is_in_sweep lo hi (valid c))) [
    | inl in_sweep ↦ in_sweep
    | inr kept ↦ absurd (false≢true (sym (rw kept at after)))
  ]
  lost_swept (raw word) before after = absurd (cc)

  -- what is in a place after it
  place_swept : (state : MachineState) (place : Place) → value_in (swept_state lo hi state) place ≡ swept lo hi (value_in state place)
  unfolding swept_state swept_hart swept_memory swept hart_at register granule_at
  place_swept state (PccOf number) = ap (λ h. h.pcc) (get_or-map (swept_hart lo hi) state.harts number no_hart)
  place_swept state (RegisterOf number k) =
      ap (λ h. slice_index_or h.regs k null) (get_or-map (swept_hart lo hi) state.harts number no_hart)
      ∙ get_or-map (swept lo hi) (slice_index_or state.harts number no_hart).regs k null
  place_swept state (GranuleOf k) = get_or-map (swept lo hi) state.memory k null

  -- ---- what is listed is swept

  abbrev IsSwept : MachineState → Place → Type 0
  IsSwept state place = is_in_sweep lo hi (value_in state place) ≡ true

  one_if : (P : Place → Type 0) (place : Place) (b : Bool) → (b ≡ true → P place) → All P (if b then place ∷ [] else [])
  one_if P place true so = All-cons P place [] (so refl) (All-nil P)
  one_if P place false so = All-nil P

  all_among : (P : Place → Type 0) (place : ℕ → Place) (value : ℕ → CapValue) (n : ℕ) →
      ((k : ℕ) → is_in_sweep lo hi (value k) ≡ true → P (place k)) → All P (swept_among place value lo hi n)
  unfolding swept_among
  all_among P place value zero each = All-nil P
  all_among P place value (suc n) each =
      All-append P (swept_among place value lo hi n) _ (all_among P place value n each) (one_if P (place n) _ (each n))

  all_in_hart : (state : MachineState) (number : ℕ) → All (IsSwept state) (swept_in_hart lo hi number (hart_at state number))
  unfolding swept_in_hart
  all_in_hart state number =
      All-append (IsSwept state) _ _ (one_if (IsSwept state) (PccOf number) _ (λ is. is))
      (all_among (IsSwept state) (λ k. RegisterOf number k) (register (hart_at state number)) 32 (λ k is. is))

  all_in_harts : (state : MachineState) (n : ℕ) → All (IsSwept state) (swept_in_harts lo hi state.harts n)
  unfolding swept_in_harts hart_at
  all_in_harts state zero = All-nil (IsSwept state)
  all_in_harts state (suc n) = All-append (IsSwept state) (swept_in_harts lo hi state.harts n) _ (all_in_harts state n) (all_in_hart state n)

  all_swept : (state : MachineState) → All (IsSwept state) (swept_places lo hi state)
  unfolding swept_places
  all_swept state =
      All-append (IsSwept state) (swept_in_harts lo hi state.harts (length state.harts)) _ (all_in_harts state (length state.harts))
      (all_among (IsSwept state) GranuleOf (granule_at state.memory) (length state.memory) (λ k is. is))

  -- ---- what is swept is listed

  has_if : (place : Place) (b : Bool) → b ≡ true → Contains (if b then place ∷ [] else []) place
  has_if place b is = rw is (Contains-push [] place)

  has_among : (place : ℕ → Place) (value : ℕ → CapValue) (n k : ℕ) → k < n → is_in_sweep lo hi (value k) ≡ true →
      Contains (swept_among place value lo hi n) (place k)
  unfolding swept_among
  has_among place value zero k below is = absurd (omega arith)
  has_among place value (suc n) k below is = elim (cases_eq k n) [
    | inl same ↦ Contains-append_right (swept_among place value lo hi n) _ (place k)
        (subst (λ m. Contains (if is_in_sweep lo hi (value m) then place m ∷ [] else []) (place k)) same (has_if (place k) _ is))
    | inr other ↦ Contains-append_left (swept_among place value lo hi n) _ (place k)
        (has_among place value n k (let apart = other in grind (arith, below)) is)
  ]

  has_in_harts : (harts : List HartState) (n number : ℕ) (place : Place) → number < n →
      Contains (swept_in_hart lo hi number (slice_index_or harts number no_hart)) place → Contains (swept_in_harts lo hi harts n) place
  unfolding swept_in_harts
  has_in_harts harts zero number place below is = absurd (omega arith)
  has_in_harts harts (suc n) number place below is = elim (cases_eq number n) [
    | inl same ↦ Contains-append_right (swept_in_harts lo hi harts n) _ place
        (subst (λ m. Contains (swept_in_hart lo hi m (slice_index_or harts m no_hart)) place) same is)
    | inr other ↦ Contains-append_left (swept_in_harts lo hi harts n) _ place
        (has_in_harts harts n number place (let apart = other in grind (arith, below)) is)
  ]

  -- null is not swept
  not_null : (v : CapValue) → is_in_sweep lo hi v ≡ true → v ≡ null → (X : Type 0) → X
  not_null v is same X = let none : is_in_sweep lo hi v ≡ false = rw same refl in absurd (false≢true (sym none ∙ is))

  register_past : (regs : List CapValue) (k : ℕ) → length regs ≡ 32 → 32 ≤ k → slice_index_or regs k null ≡ null
  register_past regs k count past = get_or_past regs k null (omega (arith, count))

  has_place : (state : MachineState) → HaveRegisters state.harts → (place : Place) → IsSwept state place → Contains (swept_places lo hi state) place
  unfolding swept_places swept_in_hart hart_at register granule_at
  has_place state each (PccOf number) is = elim (cases_lt number (length state.harts)) [
    | inl inside ↦ Contains-append_left (swept_in_harts lo hi state.harts (length state.harts)) _ (PccOf number)
        (has_in_harts state.harts (length state.harts) number (PccOf number) inside
        (Contains-append_left _ (swept_among (λ k. RegisterOf number k) (register (hart_at state number)) lo hi 32) (PccOf number)
        (has_if (PccOf number) _ is)))
    | inr past ↦ not_null _ is (ap (λ h. h.pcc) (get_or_past state.harts number no_hart past)) _
  ]
  has_place state each (RegisterOf number k) is = elim (cases_lt number (length state.harts)) [
    | inl inside ↦ elim (cases_lt k 32) [
      | inl below ↦ Contains-append_left (swept_in_harts lo hi state.harts (length state.harts)) _ (RegisterOf number k)
          (has_in_harts state.harts (length state.harts) number (RegisterOf number k) inside
          (Contains-append_right _ (swept_among (λ k. RegisterOf number k) (register (hart_at state number)) lo hi 32) (RegisterOf number k)
          (has_among (λ k. RegisterOf number k) (register (hart_at state number)) 32 k below is)))
      | inr past ↦ not_null _ is (register_past _ k (each number no_hart inside) past) _
    ]
    | inr past ↦ not_null _ is (ap (λ h. slice_index_or h.regs k null) (get_or_past state.harts number no_hart past)) _
  ]
  has_place state each (GranuleOf k) is = elim (cases_lt k (length state.memory)) [
    | inl inside ↦ Contains-append_right (swept_in_harts lo hi state.harts (length state.harts)) _ (GranuleOf k)
        (has_among GranuleOf (granule_at state.memory) (length state.memory) k inside is)
    | inr past ↦ not_null _ is (get_or_past state.memory k null past) _
  ]

  pub tags_lost : (state : MachineState) → HaveRegisters state.harts → AreTagsLost state (swept_state lo hi state) (swept_places lo hi state)
  tags_lost state each = λ place. (
    λ held.
        let lost = tag_lost _ (All-contains (IsSwept state) (swept_places lo hi state) place (all_swept state) held) in
        (lost.0, ap (λ v. tag_of v) (place_swept state place) ∙ lost.1),
    λ lost. has_place state each place (lost_swept _ lost.0 (sym (ap (λ v. tag_of v) (place_swept state place)) ∙ lost.1)),
  )

  -- ---- how many they are

  count_if : (place : Place) (b : Bool) → length (if b then place ∷ [] else []) ≡ cond b 1 0
  count_if place true = refl
  count_if place false = refl

  among_counted : (place : ℕ → Place) (values : List CapValue) (n : ℕ) → n ≤ length values →
      length (swept_among place (λ k. slice_index_or values k null) lo hi n) ≡ count_by (is_in_sweep lo hi) (take n values)
  unfolding swept_among
  among_counted place values zero within = refl
  among_counted place values (suc n) within =
      length-append (swept_among place (λ k. slice_index_or values k null) lo hi n) _
      ∙ ap (λ m. m + length (if is_in_sweep lo hi (slice_index_or values n null) then place n ∷ [] else [])) (among_counted place values n (omega arith))
      ∙ ap (λ m. count_by (is_in_sweep lo hi) (take n values) + m) (count_if (place n) (is_in_sweep lo hi (slice_index_or values n null)))
      ∙ sym (sum_by_more (λ v. cond (is_in_sweep lo hi v) 1 0) values n null (omega arith))
      ∙ ap (λ m. count_by (is_in_sweep lo hi) (take m values)) (add-one n)

  hart_counted : (number : ℕ) (hart : HartState) → length hart.regs ≡ 32 → length (swept_in_hart lo hi number hart) ≡ cleared_in_hart lo hi hart
  unfolding swept_in_hart cleared_in_hart register
  hart_counted number hart count =
      let all : take 32 hart.regs ≡ hart.regs = take_all 32 hart.regs (omega (arith, count)) in
      length-append (if is_in_sweep lo hi hart.pcc then PccOf number ∷ [] else []) _
      ∙ ap (λ m. m + length (swept_among (λ k. RegisterOf number k) (register hart) lo hi 32)) (count_if (PccOf number) (is_in_sweep lo hi hart.pcc))
      ∙ ap (λ m. cond (is_in_sweep lo hi hart.pcc) 1 0 + m) (among_counted (λ k. RegisterOf number k) hart.regs 32 (omega (arith, count)))
      ∙ ap (λ regs. cond (is_in_sweep lo hi hart.pcc) 1 0 + count_by (is_in_sweep lo hi) regs) all
      ∙ sym (sum_by-cons (λ v. cond (is_in_sweep lo hi v) 1 0) hart.pcc hart.regs)

  harts_counted : (harts : List HartState) (n : ℕ) → HaveRegisters harts → n ≤ length harts →
      length (swept_in_harts lo hi harts n) ≡ sum_by (cleared_in_hart lo hi) (take n harts)
  unfolding swept_in_harts
  harts_counted harts zero each within = refl
  harts_counted harts (suc n) each within =
      let below : n < length harts = omega arith in
      length-append (swept_in_harts lo hi harts n) _
      ∙ ap (λ m. m + length (swept_in_hart lo hi n (slice_index_or harts n no_hart))) (harts_counted harts n each (omega arith))
      ∙ ap (λ m. sum_by (cleared_in_hart lo hi) (take n harts) + m) (hart_counted n (slice_index_or harts n no_hart) (each n no_hart below))
      ∙ sym (sum_by_more (cleared_in_hart lo hi) harts n no_hart below)
      ∙ ap (λ m. sum_by (cleared_in_hart lo hi) (take m harts)) (add-one n)

  pub tags_counted : (state : MachineState) → HaveRegisters state.harts → length (swept_places lo hi state) ≡ cleared lo hi state
  unfolding swept_places cleared cleared_in_memory granule_at
  tags_counted state each =
      length-append (swept_in_harts lo hi state.harts (length state.harts)) _
      ∙ ap (λ m. m + length (swept_among GranuleOf (granule_at state.memory) lo hi (length state.memory)))
      (harts_counted state.harts (length state.harts) each (omega arith))
      ∙ ap (λ m. sum_by (cleared_in_hart lo hi) (take (length state.harts) state.harts) + m) (among_counted GranuleOf state.memory (length state.memory) (omega arith))
      ∙ ap (λ harts. sum_by (cleared_in_hart lo hi) harts + count_by (is_in_sweep lo hi) (take (length state.memory) state.memory)) (take_all (length state.harts) state.harts (omega arith))
      ∙ ap (λ memory. sum_by (cleared_in_hart lo hi) state.harts + count_by (is_in_sweep lo hi) memory) (take_all (length state.memory) state.memory (omega arith))
