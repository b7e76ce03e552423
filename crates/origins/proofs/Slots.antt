-- Places and their slots, one to one; and a table after flows.
use Rattle.std.proofs.Common.{◌≡◌, ℕ, ◌+◌, ◌-◌, ◌*◌, ◌/◌, ◌%◌, ◌==◌, ◌<◌, ◌≤◌, ◌^◌, true, false, List, [], ◌∷◌, ◌++◌, refl, sym, ap, subst, ◌∙◌, arith, inl, inr, length, eqb-true}
use Rattle.std.specs.Prelude.{if◌then◌else◌, nat_lt, slice_index_or, slice_set}
use Rattle.std.proofs.lemmas.Bool.{cases_Bool, cases_eq, eq-eqb, ne_eqb, lt-ltb, le-ltb, eqb-false}
use Rattle.std.proofs.lemmas.List.{length-set, get_or-set_same, get_or-set_other}
use Rattle.origins.specs.declared.place.Spot.{Spot}
use Rattle.origins.specs.declared.place.Spot.TheVariants.{Pcc, Register, Granule}
use Rattle.origins.specs.declared.place.Place.{Place}
use Rattle.origins.specs.declared.place.Place.TheVariants.{PccOf, RegisterOf, GranuleOf}
use Rattle.origins.specs.declared.place.Flow.{Flow}
use Rattle.origins.specs.Places.{place_of}
use Rattle.origins.specs.Flows.{flow, source_of}
use Rattle.origins.specs.Origins.{Origins, before_in, before_flows, came_from, replayed_origins}
use Rattle.origins.specs.Table.{Table, slot_of, IsPlaceIn, IsPlace, origin_in, with_origin, AreFlows, place_at, IsAfter, IsOpening, TellsOrigins, next_flows}
use Rattle.cheri_model.specs.declared.operation.Op.{Op}
use Rattle.cheri_model.specs.declared.operation.Op.TheVariants as operation
use Rattle.cheri_model.specs.runs.Image.{ImageParts}
use Rattle.origins.proofs.RunOrigins.{origins_none, origins_push}

-- a place's slot is there
pub slot_inside : (harts count : ℕ) (place : Place) → 33 * harts ≤ count → IsPlaceIn harts count place → slot_of harts place < count
unfolding slot_of
slot_inside harts count (PccOf hart) fits is = let h : hart < harts = is in omega arith
slot_inside harts count (RegisterOf hart number) fits is =
    let h : hart < harts = is.0 in let n : number < 32 = is.1 in omega arith
slot_inside harts count (GranuleOf number) fits is = is

-- and it is that of no other place
pub place_at-slot_of : (harts count : ℕ) (place : Place) → IsPlaceIn harts count place → place_at harts (slot_of harts place) ≡ place
unfolding slot_of place_at
place_at-slot_of harts count (PccOf hart) is =
    let h : hart < harts = is in
    let first : (33 * hart) % 33 ≡ 0 = omega arith in
    let whole : (33 * hart) / 33 ≡ hart = omega arith in
    rw (lt-ltb (33 * hart) (33 * harts) (omega arith), first, whole) refl
place_at-slot_of harts count (RegisterOf hart number) is =
    let h : hart < harts = is.0 in
    let n : number < 32 = is.1 in
    let rest : (33 * hart + 1 + number) % 33 ≡ number + 1 = omega arith in
    let whole : (33 * hart + 1 + number) / 33 ≡ hart = omega arith in
    let less : number + 1 - 1 ≡ number = omega arith in
    rw (lt-ltb (33 * hart + 1 + number) (33 * harts) (omega arith), rest, whole, ne_eqb (number + 1) 0 (λ e. omega arith), less) refl
place_at-slot_of harts count (GranuleOf number) is =
    let less : 33 * harts + number - 33 * harts ≡ number = omega arith in
    rw (le-ltb (33 * harts + number) (33 * harts) (omega arith), less) refl

-- with no flows each place stays
before_none : (number : ℕ) (place : Place) → before_flows number [] place ≡ place
unfolding before_flows source_of
before_none number (PccOf hart) = elim (cases_Bool (number == hart)) [
  | inl same ↦ rw same (ap PccOf (eqb-true number hart same))
  | inr other ↦ rw other refl
]
before_none number (RegisterOf hart n) = elim (cases_Bool (number == hart)) [
  | inl same ↦ rw same (ap (λ h. RegisterOf h n) (eqb-true number hart same))
  | inr other ↦ rw other refl
]
before_none number (GranuleOf k) = refl

module _ (harts count : ℕ) where
  -- one more flow, by slots
  abbrev Before : ℕ → Spot → Spot → List Flow → Place → Type 0
  Before number set source rest place =
      before_flows number (flow set source ∷ rest) place
      ≡ (if slot_of harts (place_of number set) == slot_of harts place then place_of number source else before_flows number rest place)

  before_more : (number : ℕ) (set source : Spot) (rest : List Flow) (place : Place) →
      IsPlaceIn harts count (place_of number set) → IsPlaceIn harts count place → Before number set source rest place
  unfolding before_flows source_of slot_of
  before_more number Pcc source rest (PccOf hart) a b = elim (cases_eq number hart) [
    | inl same ↦ rw (same, eq-eqb hart hart refl, eq-eqb (33 * hart) (33 * hart) refl) refl
    | inr other ↦ rw (ne_eqb number hart other, ne_eqb (33 * number) (33 * hart) (λ e. other (omega arith))) refl
  ]
  before_more number Pcc source rest (RegisterOf hart n) a b =
      let low : n < 32 = b.1 in rw (ne_eqb (33 * number) (33 * hart + 1 + n) (λ e. omega arith)) refl
  before_more number Pcc source rest (GranuleOf k) a b =
      let low : number < harts = a in rw (ne_eqb (33 * number) (33 * harts + k) (λ e. omega arith)) refl
  before_more number (Register m) source rest (PccOf hart) a b =
      let low : m < 32 = a.1 in rw (ne_eqb (33 * number + 1 + m) (33 * hart) (λ e. omega arith)) refl
  before_more number (Register m) source rest (RegisterOf hart n) a b =
      let low : m < 32 = a.1 in
      let low_too : n < 32 = b.1 in
      elim (cases_eq number hart) [
        | inl same ↦ elim (cases_eq m n) [
          | inl alike ↦ rw (same, alike, eq-eqb hart hart refl, eq-eqb n n refl, eq-eqb (33 * hart + 1 + n) (33 * hart + 1 + n) refl) refl
          | inr apart ↦ rw (same, eq-eqb hart hart refl, ne_eqb m n apart, ne_eqb (33 * hart + 1 + m) (33 * hart + 1 + n) (λ e. apart (omega arith))) refl
        ]
        | inr other ↦ rw (ne_eqb number hart other, ne_eqb (33 * number + 1 + m) (33 * hart + 1 + n) (λ e. other (omega arith))) refl
      ]
  before_more number (Register m) source rest (GranuleOf k) a b =
      let low : m < 32 = a.1 in
      let there : number < harts = a.0 in
      rw (ne_eqb (33 * number + 1 + m) (33 * harts + k) (λ e. omega arith)) refl
  before_more number (Granule j) source rest (PccOf hart) a b =
      let there : hart < harts = b in rw (ne_eqb (33 * harts + j) (33 * hart) (λ e. omega arith)) refl
  before_more number (Granule j) source rest (RegisterOf hart n) a b =
      let there : hart < harts = b.0 in
      let low : n < 32 = b.1 in
      rw (ne_eqb (33 * harts + j) (33 * hart + 1 + n) (λ e. omega arith)) refl
  before_more number (Granule j) source rest (GranuleOf k) a b = elim (cases_eq j k) [
    | inl same ↦ rw (same, eq-eqb k k refl, eq-eqb (33 * harts + k) (33 * harts + k) refl) refl
    | inr other ↦ rw (ne_eqb j k other, ne_eqb (33 * harts + j) (33 * harts + k) (λ e. other (omega arith))) refl
  ]

-- a table after no flows, and after one more
pub after_none : (number : ℕ) (table : Table) → IsAfter number [] table table
after_none number table = record { harts = refl; size = refl; origins = λ place is. ap (origin_in table) (sym (before_none number place)) }

pub after_more : (number : ℕ) (f : Flow) (rest : List Flow) (table middle : Table) → 33 * table.harts ≤ length table.slots →
    IsPlace table (place_of number f.set) → IsAfter number rest table middle →
    IsAfter number (f ∷ rest) table (with_origin middle (place_of number f.set) (origin_in table (place_of number f.source)))
unfolding origin_in
after_more number f rest table middle fits set after =
    let s = slot_of table.harts (place_of number f.set) in
    let x = origin_in table (place_of number f.source) in
    let inside : s < length middle.slots = rw after.size (slot_inside table.harts (length table.slots) _ fits set) in
    record {
      harts = after.harts;
      size = length-set middle.slots (slot_of middle.harts (place_of number f.set)) x ∙ after.size;
      origins = λ place is.
          let n = slot_of table.harts place in
          let before = before_more table.harts (length table.slots) number f.set f.source rest place set is in
          let stays : slice_index_or middle.slots n place ≡ origin_in table (before_flows number rest place) =
          subst (λ h. slice_index_or middle.slots (slot_of h place) place ≡ origin_in table (before_flows number rest place)) after.harts (after.origins place is) in
          let now : slice_index_or (slice_set middle.slots s x) n place ≡ origin_in table (before_flows number (f ∷ rest) place) =
          elim (cases_Bool (s == n)) [
            | inl same ↦
                rw (before, same, ← eqb-true s n same) (get_or-set_same middle.slots s x place inside)
            | inr other ↦
                rw (before, other) (get_or-set_other middle.slots s n x place (λ e. eqb-false s n other (sym e)) ∙ stays)
          ] in
          subst (λ h. slice_index_or (slice_set middle.slots (slot_of h (place_of number f.set)) x) (slot_of h place) place ≡ origin_in table (before_flows number (f ∷ rest) place)) (sym after.harts) now;
    }

-- ---- tables along a run

-- where a place's value was is a place too
are_before : (table : Table) (number : ℕ) (flows : List Flow) (place : Place) → AreFlows table number flows → IsPlace table place →
    IsPlace table (before_flows number flows place)
are_before table number [] place are is = subst (IsPlace table) (sym (before_none number place)) is
are_before table number (f ∷ rest) place are is =
    let test = slot_of table.harts (place_of number f.set) == slot_of table.harts place in
    let before = before_more table.harts (length table.slots) number f.set f.source rest place are.0 is in
    let there : IsPlace table (if test then place_of number f.source else before_flows number rest place) =
    elim test as (λ b. IsPlace table (if b then place_of number f.source else before_flows number rest place)) [
      | true ↦ are.1
      | false ↦ are_before table number rest place are.2 is
    ] in
    subst (IsPlace table) (sym before) there

-- a table that tells where each value was from tells where each is from after flows
pub tells_after : (number : ℕ) (flows : List Flow) (origins : Origins) (old new : Table) → AreFlows old number flows → IsAfter number flows old new →
    ((place : Place) → IsPlace old place → origin_in old place ≡ origins place) →
    (place : Place) → IsPlace new place → origin_in new place ≡ origins (before_flows number flows place)
tells_after number flows origins old new are after tells place is =
    let sized = subst (λ n. IsPlaceIn new.harts n place) after.size is in
    let there = subst (λ h. IsPlaceIn h (length old.slots) place) after.harts sized in
    after.origins place there ∙ tells _ (are_before old number flows place are there)

pub tells_step : (image : ImageParts) (order : List Op) (number : ℕ) (old new : Table) → AreFlows old number (next_flows image order number) →
    IsAfter number (next_flows image order number) old new → TellsOrigins image order old →
    TellsOrigins image (order ++ operation.Step number ∷ []) new
unfolding came_from
tells_step image order number old new are after tells place is =
    tells_after number (next_flows image order number) (replayed_origins image order) old new are after tells place is
    ∙ sym (origins_push image order (operation.Step number) place)

pub tells_sweep : (image : ImageParts) (order : List Op) (lo hi : ℕ) (table : Table) → TellsOrigins image order table →
    TellsOrigins image (order ++ operation.Sweep lo hi ∷ []) table
unfolding came_from
tells_sweep image order lo hi table tells place is = tells place is ∙ sym (origins_push image order (operation.Sweep lo hi) place)

pub tells_opening : (image : ImageParts) (count granules : ℕ) (table : Table) → IsOpening count granules table → TellsOrigins image [] table
tells_opening image count granules table opening place is = opening.own place is ∙ sym (origins_none image place)
