use Rattle.std.proofs.Common.{◌≡◌, ℕ, ◌+◌, ◌<◌, [], ◌∷◌, length, ap, ◌∙◌}
use Rattle.std.specs.Prelude.{Some, slice_index}
use Rattle.interner.specs.Hashes.{home_of}
use Rattle.interner.specs.Rows.{IsRow}
use Rattle.interner.specs.Slots.{link_in}
use Rattle.interner.proofs.RowLemmas.{slice_get-rows_of, row_number, row_found, if_some}
use Rattle.interner.proofs.SlotLemmas.{link_some, found_in, absent_in}
use Rattle.interner.proofs.words.Words.find.Goals as goal

pub number_at-requires : goal.number_at-requires
number_at-requires c =
    link_some 1 c.self.inside.words.items c.self.inside.slots.items c.self.inside.homes
    (length c.self.inside.words.items) c.self.invariant c.as_slice-slots.result.now c.place_of-place.result
    c.as_slice-slots.ensures.value

pub returns-clause-found : goal.returns-clause-found
returns-clause-found c =
    let words = c.self.inside.words.items in
    if_some c.number_at.result
    (λ (n : ℕ). (0 < slice_index c.as_slice-slots.result.now c.place_of-place.result)
    × (n + 1 ≡ link_in (slice_index c.as_slice-slots.result.now c.place_of-place.result)))
    (λ (n : ℕ). IsRow c.args.self.now n (c.args.word ∷ []))
    (λ n h.
    let f = found_in 1 words c.self.inside.slots.items c.self.inside.homes (length words) c.self.invariant
    (c.args.word ∷ []) c.as_slice-slots.result.now c.as_slice.result.now c.place_of-place.result n
    c.as_slice-slots.ensures.value c.as_slice.ensures.value c.place_of-place.ensures.here h in
    rw (← c.self.view_is) (slice_get-rows_of 1 words (length words) n f.0 ∙ ap (λ row. Some row) f.1))
    c.number_at.ensures.some

pub returns-clause-absent : goal.returns-clause-absent
returns-clause-absent c none i found =
    let words = c.self.inside.words.items in
    let there = rw (← c.self.view_is) at found in
    let below = row_number 1 words (length words) i (c.args.word ∷ []) there in
    let same = row_found 1 words (length words) i (c.args.word ∷ []) there in
    absent_in 1 words c.self.inside.slots.items c.self.inside.homes (length words) c.self.invariant
    (c.args.word ∷ []) c.as_slice-slots.result.now c.as_slice.result.now c.home_of-home.result c.place_of-place.result
    c.as_slice-slots.ensures.value c.as_slice.ensures.value
    (c.home_of-home.ensures.value ∙ ap (λ t. home_of t c.self.inside.homes) c.tag_of_word-tag.ensures)
    (c.number_at.ensures.none none) c.place_of-place.ensures.after c.place_of-place.ensures.others i below same
