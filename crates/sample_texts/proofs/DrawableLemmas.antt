-- First runs that can be drawn again.
use Rattle.std.proofs.Common.{◌≡◌, ℕ, zero, suc, ◌≤◌, min, Bool, List, [], ◌∷◌, map, sym, subst, arith, inl, inr}
use Rattle.std.specs.Prelude.{All, Some, fold, slice_get}
use Rattle.std.proofs.lemmas.Bool.{cases_Bool}
use Rattle.std.proofs.lemmas.Option.{slice_get_within, get_or_from_slice_get}
use Rattle.cheri_model.specs.runs.Machine.{MachineState}
use Rattle.conditions.specs.declared.parts.Shown.{Shown}
use Rattle.outcomes.specs.declared.items.ItemValue.{ItemValue}
use Rattle.sample_draws.specs.declared.drawing.TheConstants.{MAX_RUN}
use Rattle.sample_tallies.specs.declared.seen.TrapPlace.{TrapPlace}
use Rattle.sample_tallies.specs.declared.seen.TrapSeen.{TrapSeen}
use Rattle.sample_tallies.specs.Counts.{entry_of}
use Rattle.sample_tallies.specs.Sums.{traps_in_order, ends_in_order, is_later_trap, is_later_end}
use Rattle.sample_tallies.specs.Tables.{Entry, placed, with_entry}
use Rattle.sample_tallies.specs.Tallies.{TallyParts}
use Rattle.sample_tallies.specs.Within.{is_drawable, IsWithin}
use Rattle.sample_texts.specs.declared.table.ShownRow.{ShownRow}
use Rattle.sample_texts.specs.ShownRows.{same_row, row_of, rows_of, shown_rows}

-- each of a list is so
abbrev pub Each : {A : Type 0} → (A → Type 0) → List A → Type 0
Each {A} P [] = Unit {0}
Each {A} P (x ∷ xs) = P x × Each P xs

pub to_each : {A : Type 0} (P : A → Type 0) (xs : List A) → All P xs → Each P xs
to_each {A} P [] all = tt
to_each {A} P (x ∷ xs) all = (all 0 x (omega arith), to_each P xs (λ i d below. all (suc i) d (omega arith)))

pub of_each : {A : Type 0} (P : A → Type 0) (xs : List A) → Each P xs → All P xs
of_each {A} P [] each i d below = absurd (omega arith)
of_each {A} P (x ∷ xs) each zero d below = each.0
of_each {A} P (x ∷ xs) each (suc i) d below = of_each P xs each.1 i d (omega arith)

pub each_of_map : {A B : Type 0} (f : A → B) (P : B → Type 0) (xs : List A) → Each P (map f xs) → Each (λ x. P (f x)) xs
each_of_map {A} {B} f P [] each = tt
each_of_map {A} {B} f P (x ∷ xs) each = (each.0, each_of_map f P xs each.1)

pub each_to_map : {A B : Type 0} (f : A → B) (P : B → Type 0) (xs : List A) → Each (λ x. P (f x)) xs → Each P (map f xs)
each_to_map {A} {B} f P [] each = tt
each_to_map {A} {B} f P (x ∷ xs) each = (each.0, each_to_map f P xs each.1)

-- ---- in an order

each_placed : {K : Type 0} (P : Entry K → Type 0) (later : Entry K → Entry K → Bool) (es : List (Entry K)) (m : Entry K)
    → Each P es → P m → Each P (placed later es m)
unfolding placed
each_placed {K} P later [] m each p = (p, tt)
each_placed {K} P later (e ∷ es) m each p = elim (cases_Bool (later e m)) [
  | inl hit ↦ rw hit (p, (each.0, each.1))
  | inr miss ↦ rw miss (each.0, each_placed P later es m each.1 p)
]

pub each_in_order : {K : Type 0} (P : Entry K → Type 0) (later : Entry K → Entry K → Bool) (xs t : List (Entry K))
    → Each P t → Each P xs → Each P (fold (placed later) t xs)
each_in_order {K} P later [] t each more = each
each_in_order {K} P later (x ∷ xs) t each more = each_in_order P later xs (placed later t x) (each_placed P later t x each more.0) more.1

abbrev pub drawn_again : (K : Type 0) → Entry K → Type 0
drawn_again K entry = is_drawable entry.seen

-- traps in memory
pub traps_drawn : (sum : TallyParts) (traps : List TrapSeen) → IsWithin sum → map entry_of traps ≡ traps_in_order sum
    → All (λ (trap : TrapSeen). is_drawable trap.seen) traps
unfolding traps_in_order
traps_drawn sum traps within are =
    of_each (λ (trap : TrapSeen). is_drawable trap.seen) traps
    (each_of_map entry_of (drawn_again TrapPlace) traps
    (subst (Each (drawn_again TrapPlace)) (sym are)
    (each_in_order (drawn_again TrapPlace) is_later_trap sum.traps [] tt (to_each (drawn_again TrapPlace) sum.traps within.traps))))

-- an end of a number
pub end_drawn : (sum : TallyParts) (number : ℕ) (end : Entry MachineState) → IsWithin sum → slice_get sum.ends number ≡ Some end
    → is_drawable end.seen
end_drawn sum number end within at =
    subst (drawn_again MachineState) (get_or_from_slice_get sum.ends number end end at)
    (within.ends number end (slice_get_within sum.ends number end at))

-- ---- rows

each_with : {K : Type 0} (same : K → K → Bool) (t : List (Entry K)) (m : Entry K) → Each (drawn_again K) t → drawn_again K m
    → Each (drawn_again K) (with_entry same t m)
unfolding with_entry
each_with {K} same [] m each p = (p, tt)
each_with {K} same (e ∷ es) m each p = elim (cases_Bool (same e.key m.key)) [
  | inl hit ↦
      let least : min e.seen.first m.seen.first ≤ MAX_RUN = omega (arith, each.0, p) in
      rw hit (least, each.1)
  | inr miss ↦ rw miss (each.0, each_with same es m each.1 p)
]

each_sum : {K : Type 0} (same : K → K → Bool) (xs t : List (Entry K)) → Each (drawn_again K) t → Each (drawn_again K) xs
    → Each (drawn_again K) (fold (with_entry same) t xs)
each_sum {K} same [] t each more = each
each_sum {K} same (x ∷ xs) t each more = each_sum same xs (with_entry same t x) (each_with same t x each more.0) more.1

pub rows_drawn : (shown : List Shown) (sum : TallyParts) (rows : List ShownRow) → IsWithin sum
    → rows_of rows ≡ shown_rows shown (ends_in_order sum) → All (λ (row : ShownRow). is_drawable row.seen) rows
unfolding shown_rows ends_in_order
rows_drawn shown sum rows within are =
    let ends = each_in_order (drawn_again MachineState) is_later_end sum.ends [] tt
    (to_each (drawn_again MachineState) sum.ends within.ends) in
    of_each (λ (row : ShownRow). is_drawable row.seen) rows
    (each_of_map (λ (row : ShownRow). record { key = row.values.items; seen = row.seen }) (drawn_again (List ItemValue)) rows
    (subst (Each (drawn_again (List ItemValue))) (sym are)
    (each_sum same_row (map (row_of shown) (fold (placed is_later_end) [] sum.ends)) [] tt
    (each_to_map (row_of shown) (drawn_again (List ItemValue)) (fold (placed is_later_end) [] sum.ends) ends))))
