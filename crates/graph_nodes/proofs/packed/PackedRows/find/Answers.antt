use Rattle.std.proofs.Common.{◌≡◌, length, Some, None, sym, ◌∙◌, ap, refl, rules}
use Rattle.std.specs.Prelude.{option_map}
use Rattle.graph_nodes.specs.Kept.{kept_word, kept_of, kept_in}
use Rattle.graph_nodes.proofs.KeptLemmas.{absent_row, unfit_row, row_wide, found_row, row_of_word, has_room}
use Rattle.graph_nodes.proofs.packed.PackedRows.find.Goals as goal

pub returns-in_default-clause-found : goal.returns-in_default-clause-found
returns-in_default-clause-found c =
    rw (← c.self.view_is, c.in_default.is) (found_row None c.self.inside.width c.self.inside.wide c.args.row.now
    c.args.row.now c.find.result refl c.find.ensures.found)

pub returns-in_default-clause-absent : goal.returns-in_default-clause-absent
returns-in_default-clause-absent c = λ none.
    rw (← c.self.view_is, c.in_default.is) (absent_row None c.self.inside.width c.self.inside.wide
    (rw c.in_default.is at c.self.invariant) c.args.row.now c.args.row.now refl (c.find.ensures.absent none))

pub returns-then-row-self-clause-absent : goal.returns-then-row-self-clause-absent
returns-then-row-self-clause-absent c = λ _ i there.
    let inside = rw (← c.self.view_is) at there in
    let wide = row_wide c.self.inside.bits c.self.inside.width
    (kept_in c.self.inside.bits c.self.inside.words c.self.inside.wide) c.self.invariant i c.args.row.now inside in
    absurd (c.if-row-self.true wide)

pub pack-requires-clause-room : goal.pack-requires-clause-room
pack-requires-clause-room c =
    let wide : length c.args.row.now ≡ c.self.inside.width = search rules in
    has_room c.self.inside.bits c.in-Some.bits c.self.inside.width (length c.args.row.now) c.self.invariant.fit
    c.in-Some.is wide

pub returns-in_err-word-clause-absent : goal.returns-in_err-word-clause-absent
returns-in_err-word-clause-absent c = λ _.
    let unfit : kept_of c.self.inside.bits c.args.row.now ≡ None =
    rw c.in-Some.is (ap (option_map kept_word) (sym c.pack.ensures.word ∙ c.in_err-word.was)) in
    rw (← c.self.view_is) (unfit_row c.self.inside.bits c.self.inside.width
    (kept_in c.self.inside.bits c.self.inside.words c.self.inside.wide) c.self.invariant c.args.row.now unfit)

pub returns-clause-found : goal.returns-clause-found
returns-clause-found c =
    let wide : length c.args.row.now ≡ c.self.inside.width = search rules in
    let means = row_of_word c.in-Some.bits c.self.inside.width c.in_ok-word.word c.args.row.now wide
    c.in_ok-word.ensures.back in
    rw (← c.self.view_is, c.in-Some.is) (found_row (Some c.in-Some.bits) c.self.inside.width c.self.inside.words
    (kept_word c.in_ok-word.word) c.args.row.now c.find-2.result means c.find-2.ensures.found)

pub returns-clause-absent : goal.returns-clause-absent
returns-clause-absent c = λ none.
    let fits : kept_of (Some c.in-Some.bits) c.args.row.now ≡ Some (kept_word c.in_ok-word.word) =
    ap (option_map kept_word) (sym c.pack.ensures.word ∙ c.in_ok-word.was) in
    rw (← c.self.view_is, c.in-Some.is) (absent_row (Some c.in-Some.bits) c.self.inside.width c.self.inside.words
    (rw c.in-Some.is at c.self.invariant) c.args.row.now (kept_word c.in_ok-word.word) fits
    (c.find-2.ensures.absent none))
