use Rattle.std.proofs.Common.{◌≡◌, ℕ, ◌+◌, ◌<◌, ◌≤◌, ◌^◌, List, arith, ap, sym, ◌∙◌, subst, inl, length}
use Rattle.std.specs.Prelude.{Some, slice_index}
use Rattle.interner.specs.Hashes.{tag_of, home_of}
use Rattle.interner.specs.Slots.{slot_of, IsPut, IsInterner}
use Rattle.interner.proofs.RowLemmas.{slice_get-rows_of, rows_interned}
use Rattle.interner.proofs.SlotLemmas.{link_some, found_in, absent_in, interner_like, interner_more}
use Rattle.interner.proofs.table.Interner.insert.Goals as goal

pub number_at-requires : goal.number_at-requires
number_at-requires c =
    link_some c.self.inside.width c.self.inside.numbers.items c.grow.new.slots.items c.grow.new.homes
    c.self.inside.count (c.grow.ensures.kept c.self.inside.width c.self.inside.numbers.items c.self.invariant)
    c.as_slice-slots.result.now c.place_of-place.result c.as_slice-slots.ensures.value

pub returns-in-Some-clause-interned : goal.returns-in-Some-clause-interned
returns-in-Some-clause-interned c =
    let f = found_in c.self.inside.width c.self.inside.numbers.items c.grow.new.slots.items c.grow.new.homes
    c.self.inside.count (c.grow.ensures.kept c.self.inside.width c.self.inside.numbers.items c.self.invariant)
    c.args.row.now c.as_slice-slots.result.now c.as_slice.result.now c.place_of-place.result c.in-Some.number
    c.as_slice-slots.ensures.value c.as_slice.ensures.value c.place_of-place.ensures.here c.in-Some.ensures.some in (
      slice_get-rows_of c.self.inside.width c.self.inside.numbers.items c.self.inside.count c.in-Some.number f.0
          ∙ ap (λ row. Some row) f.1,
      inl c.self.view_is,
    )

pub invariant_of-self-in_err-add : goal.invariant_of-self-in_err-add
invariant_of-self-in_err-add c =
    subst (λ (ns : List ℕ). IsInterner c.self.inside.width ns c.add.new.slots.items c.grow.new.homes
    c.self.inside.count) (sym c.in_err-add.ensures.same_numbers)
    (interner_like c.self.inside.width c.self.inside.numbers.items c.grow.new.slots.items c.grow.new.homes
    c.self.inside.count (c.grow.ensures.kept c.self.inside.width c.self.inside.numbers.items c.self.invariant)
    c.add.new.slots.items c.in_err-add.ensures.same_slots c.add.ensures.long)

pub invariant_of-self-2 : goal.invariant_of-self-2
invariant_of-self-2 c =
    let home : c.home_of-home.result ≡ home_of (tag_of c.args.row.now) c.grow.new.homes =
    c.home_of-home.ensures.value ∙ ap (λ t. home_of t c.grow.new.homes) c.tag_of-tag.ensures in
    let before = c.grow.ensures.kept c.self.inside.width c.self.inside.numbers.items c.self.invariant in
    let wide : length c.args.row.now ≡ c.self.inside.width = rw (← c.self.view_is) at c.requires in
    let few : c.self.inside.count + 1 < 2 ^ 32 = omega arith in
    let absent = absent_in c.self.inside.width c.self.inside.numbers.items c.grow.new.slots.items c.grow.new.homes
    c.self.inside.count before c.args.row.now c.as_slice-slots.result.now c.as_slice.result.now
    c.home_of-home.result c.place_of-place.result c.as_slice-slots.ensures.value c.as_slice.ensures.value home
    (c.number_at.ensures.none c.in_default.is) c.place_of-place.ensures.after c.place_of-place.ensures.others in
    let slot : c.slot_of-slot.result ≡ slot_of (tag_of c.args.row.now) c.self.inside.count =
    c.slot_of-slot.ensures ∙ ap (λ t. slot_of t c.self.inside.count) c.tag_of-tag.ensures in
    let put : IsPut c.grow.new.slots.items c.add.new.slots.items (slot_of (tag_of c.args.row.now) c.self.inside.count)
    c.place_of-place.result = subst (λ (s : ℕ). IsPut c.grow.new.slots.items c.add.new.slots.items s
    c.place_of-place.result) slot c.in_ok-add.ensures.put in
    let after = c.place_of-place.ensures.after in
    let met : (p : ℕ) → home_of (tag_of c.args.row.now) c.grow.new.homes ≤ p → p < c.place_of-place.result →
    0 < slice_index c.grow.new.slots.items p = λ p late early.
    let begun : c.home_of-home.result ≤ p = omega arith in
    subst (λ (xs : List ℕ). 0 < slice_index xs p) c.as_slice-slots.ensures.value
    (c.place_of-place.ensures.passed p begun early) in
    subst (λ (ns : List ℕ). IsInterner c.self.inside.width ns c.add.new.slots.items c.grow.new.homes
    (c.self.inside.count + 1)) (sym c.in_ok-add.ensures.numbers)
    (interner_more c.self.inside.width c.self.inside.numbers.items c.grow.new.slots.items c.grow.new.homes
    c.self.inside.count before c.add.new.slots.items c.args.row.now c.place_of-place.result wide few absent put
    (omega arith) met)

pub returns-clause-interned : goal.returns-clause-interned
returns-clause-interned c =
    let wide : length c.args.row.now ≡ c.self.inside.width = rw (← c.self.view_is) at c.requires in
    rw (c.in_ok-add.ensures.numbers, ← c.self.view_is)
    (rows_interned c.self.inside.width c.self.inside.numbers.items c.args.row.now c.self.inside.count
    c.self.invariant.whole wide)
