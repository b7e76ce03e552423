use Rattle.std.proofs.Common.{◌≡◌, ℕ, ◌+◌, ◌<◌, ◌≤◌, ◌^◌, List, [], ◌∷◌, ◌++◌, arith, ap, sym, ◌∙◌, subst, inl, length, length-append, refl}
use Rattle.std.specs.Prelude.{Some, slice_index}
use Rattle.interner.specs.Hashes.{tag_of, home_of}
use Rattle.interner.specs.Rows.{Rows, rows_of, IsInterned}
use Rattle.interner.specs.Slots.{slot_of, IsPut, IsInterner}
use Rattle.interner.proofs.RowLemmas.{slice_get-rows_of, rows_interned}
use Rattle.interner.proofs.SlotLemmas.{link_some, found_in, absent_in, interner_like, interner_more}
use Rattle.interner.proofs.words.Words.insert.Goals as goal

pub number_at-requires : goal.number_at-requires
number_at-requires c =
    let words = c.self.inside.words.items in
    let seen = c.as_slice-words.ensures.value in
    let grown : IsInterner 1 words c.grow.new.slots.items c.grow.new.homes (length words) =
    rw seen at (c.grow.ensures.kept 1 words (rw seen c.self.invariant)) in
    link_some 1 words c.grow.new.slots.items c.grow.new.homes (length words)
    grown c.as_slice-slots.result.now c.place_of-place.result
    c.as_slice-slots.ensures.value

pub returns-in-Some-clause-interned : goal.returns-in-Some-clause-interned
returns-in-Some-clause-interned c =
    let words = c.self.inside.words.items in
    let seen = c.as_slice-words.ensures.value in
    let grown : IsInterner 1 words c.grow.new.slots.items c.grow.new.homes (length words) =
    rw seen at (c.grow.ensures.kept 1 words (rw seen c.self.invariant)) in
    let f = found_in 1 words c.grow.new.slots.items c.grow.new.homes (length words)
    grown (c.args.word ∷ []) c.as_slice-slots.result.now
    c.as_slice-words.result.now c.place_of-place.result c.in-Some.found c.as_slice-slots.ensures.value
    c.as_slice-words.ensures.value c.place_of-place.ensures.here c.in-Some.ensures.some in (
      slice_get-rows_of 1 words (length words) c.in-Some.found f.0 ∙ ap (λ row. Some row) f.1,
      inl c.self.view_is,
    )

pub invariant_of-self : goal.invariant_of-self
invariant_of-self c =
    let words = c.self.inside.words.items in
    let seen = c.as_slice-words.ensures.value in
    rw seen at (c.grow.ensures.kept 1 words (rw seen c.self.invariant))

pub invariant_of-self-in-Some : goal.invariant_of-self-in-Some
invariant_of-self-in-Some c =
    let words = c.self.inside.words.items in
    let seen = c.as_slice-words.ensures.value in
    rw seen at (c.grow.ensures.kept 1 words (rw seen c.self.invariant))

pub invariant_of-self-then-number : goal.invariant_of-self-then-number
invariant_of-self-then-number c =
    let words = c.self.inside.words.items in
    let seen = c.as_slice-words.ensures.value in
    rw seen at (c.grow.ensures.kept 1 words (rw seen c.self.invariant))

pub invariant_of-self-in_err-add : goal.invariant_of-self-in_err-add
invariant_of-self-in_err-add c =
    let words = c.self.inside.words.items in
    let seen = c.as_slice-words.ensures.value in
    let grown : IsInterner 1 words c.grow.new.slots.items c.grow.new.homes (length words) =
    rw seen at (c.grow.ensures.kept 1 words (rw seen c.self.invariant)) in
    subst (λ (ws : List ℕ). IsInterner 1 ws c.add.new.slots.items c.grow.new.homes (length ws))
    (sym c.in_err-add.ensures.same_words)
    (interner_like 1 words c.grow.new.slots.items c.grow.new.homes (length words)
    grown c.add.new.slots.items c.in_err-add.ensures.same_slots
    c.add.ensures.long)

pub invariant_of-self-2 : goal.invariant_of-self-2
invariant_of-self-2 c =
    let words = c.self.inside.words.items in
    let seen = c.as_slice-words.ensures.value in
    let grown : IsInterner 1 words c.grow.new.slots.items c.grow.new.homes (length words) =
    rw seen at (c.grow.ensures.kept 1 words (rw seen c.self.invariant)) in
    let row = c.args.word ∷ [] in
    let home : c.home_of-home.result ≡ home_of (tag_of row) c.grow.new.homes =
    c.home_of-home.ensures.value ∙ ap (λ t. home_of t c.grow.new.homes) c.tag_of_word-tag.ensures in
    let count = ap (λ (ws : List ℕ). length ws) seen in
    let few : length words + 1 < 2 ^ 32 = omega arith in
    let absent = absent_in 1 words c.grow.new.slots.items c.grow.new.homes (length words) grown row
    c.as_slice-slots.result.now c.as_slice-words.result.now c.home_of-home.result c.place_of-place.result
    c.as_slice-slots.ensures.value c.as_slice-words.ensures.value home (c.number_at.ensures.none c.in_default.is)
    c.place_of-place.ensures.after c.place_of-place.ensures.others in
    let slot : c.slot_of-slot.result ≡ slot_of (tag_of row) (length words) =
    c.slot_of-slot.ensures ∙ ap (λ t. slot_of t (length c.as_slice-words.result.now)) c.tag_of_word-tag.ensures
    ∙ ap (λ (ws : List ℕ). slot_of (tag_of row) (length ws)) seen in
    let put : IsPut c.grow.new.slots.items c.add.new.slots.items (slot_of (tag_of row) (length words))
    c.place_of-place.result = subst (λ (s : ℕ). IsPut c.grow.new.slots.items c.add.new.slots.items s
    c.place_of-place.result) slot c.in_ok-add.ensures.put in
    let after = c.place_of-place.ensures.after in
    let met : (p : ℕ) → home_of (tag_of row) c.grow.new.homes ≤ p → p < c.place_of-place.result →
    0 < slice_index c.grow.new.slots.items p = λ p late early.
    let begun : c.home_of-home.result ≤ p = omega arith in
    subst (λ (xs : List ℕ). 0 < slice_index xs p) c.as_slice-slots.ensures.value
    (c.place_of-place.ensures.passed p begun early) in
    let more = interner_more 1 words c.grow.new.slots.items c.grow.new.homes (length words) grown
    c.add.new.slots.items row c.place_of-place.result refl few absent put (omega arith) met in
    subst (λ (ws : List ℕ). IsInterner 1 ws c.add.new.slots.items c.grow.new.homes (length ws))
    (sym c.in_ok-add.ensures.words)
    (subst (λ (n : ℕ). IsInterner 1 (words ++ row) c.add.new.slots.items c.grow.new.homes n)
    (sym (length-append words row)) more)

pub returns-clause-interned : goal.returns-clause-interned
returns-clause-interned c =
    let words = c.self.inside.words.items in
    let row = c.args.word ∷ [] in
    let made = rows_interned 1 words row (length words) c.self.invariant.whole refl in
    let old : Rows = record { width = 1; rows = rows_of 1 words (length words) } in
    rw (c.as_slice-words.ensures.value, ← c.self.view_is) (subst (λ (ws : List ℕ).
    IsInterned old (record { width = 1; rows = rows_of 1 ws (length ws) }) row (length words))
    (sym c.in_ok-add.ensures.words)
    (subst (λ (n : ℕ). IsInterned old (record { width = 1; rows = rows_of 1 (words ++ row) n }) row (length words))
    (sym (length-append words row)) made))
