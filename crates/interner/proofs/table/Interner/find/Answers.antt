use Rattle.std.proofs.Common.{◌≡◌, ℕ, ◌+◌, ◌<◌, ap, ◌∙◌}
use Rattle.std.specs.Prelude.{Some, slice_index}
use Rattle.interner.specs.Hashes.{home_of}
use Rattle.interner.specs.Rows.{IsRow}
use Rattle.interner.specs.Slots.{link_in}
use Rattle.interner.proofs.RowLemmas.{slice_get-rows_of, row_number, row_found, row_wide, if_some}
use Rattle.interner.proofs.SlotLemmas.{link_some, found_in, absent_in}
use Rattle.interner.proofs.table.Interner.find.Goals as goal

pub returns-then-row-self-clause-absent : goal.returns-then-row-self-clause-absent
returns-then-row-self-clause-absent c _ i found =
    c.if-row-self.true (row_wide c.self.inside.width c.self.inside.numbers.items c.self.inside.count i c.args.row.now
    c.self.invariant.whole (rw (← c.self.view_is) at found))

pub number_at-requires : goal.number_at-requires
number_at-requires c =
    link_some c.self.inside.width c.self.inside.numbers.items c.self.inside.slots.items c.self.inside.homes
    c.self.inside.count c.self.invariant c.as_slice-slots.result.now c.place_of-place.result
    c.as_slice-slots.ensures.value

pub returns-clause-found : goal.returns-clause-found
returns-clause-found c =
    if_some c.number_at.result
    (λ (n : ℕ). (0 < slice_index c.as_slice-slots.result.now c.place_of-place.result)
    × (n + 1 ≡ link_in (slice_index c.as_slice-slots.result.now c.place_of-place.result)))
    (λ (n : ℕ). IsRow c.args.self.now n c.args.row.now)
    (λ n h.
    let f = found_in c.self.inside.width c.self.inside.numbers.items c.self.inside.slots.items c.self.inside.homes
    c.self.inside.count c.self.invariant c.args.row.now c.as_slice-slots.result.now c.as_slice.result.now
    c.place_of-place.result n c.as_slice-slots.ensures.value c.as_slice.ensures.value
    c.place_of-place.ensures.here h in
    rw (← c.self.view_is) (slice_get-rows_of c.self.inside.width c.self.inside.numbers.items c.self.inside.count n f.0
    ∙ ap (λ row. Some row) f.1))
    c.number_at.ensures.some

pub returns-clause-absent : goal.returns-clause-absent
returns-clause-absent c none i found =
    let there = rw (← c.self.view_is) at found in
    let below = row_number c.self.inside.width c.self.inside.numbers.items c.self.inside.count i c.args.row.now there in
    let same = row_found c.self.inside.width c.self.inside.numbers.items c.self.inside.count i c.args.row.now there in
    absent_in c.self.inside.width c.self.inside.numbers.items c.self.inside.slots.items c.self.inside.homes
    c.self.inside.count c.self.invariant c.args.row.now c.as_slice-slots.result.now c.as_slice.result.now
    c.home_of-home.result c.place_of-place.result c.as_slice-slots.ensures.value c.as_slice.ensures.value
    (c.home_of-home.ensures.value ∙ ap (λ t. home_of t c.self.inside.homes) c.tag_of-tag.ensures)
    (c.number_at.ensures.none none) c.place_of-place.ensures.after c.place_of-place.ensures.others i below same
