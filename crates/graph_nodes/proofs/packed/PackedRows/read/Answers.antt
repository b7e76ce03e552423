use Rattle.std.proofs.Common.{◌≡◌, ◌-◌, length, Some, None, sym, ◌∙◌, ap, rules}
use Rattle.std.specs.Prelude.{slice_get}
use Rattle.interner.specs.Rows.{Rows}
use Rattle.graph_nodes.specs.Packing.{unpacked}
use Rattle.graph_nodes.specs.Kept.{kept_word, row_of, AreKept}
use Rattle.graph_nodes.proofs.KeptLemmas.{row_there, no_row_there}
use Rattle.graph_nodes.proofs.packed.PackedRows.read.Goals as goal

pub copy_from_slice-requires : goal.copy_from_slice-requires
copy_from_slice-requires c =
    let are : AreKept None c.self.inside.width c.self.inside.wide = rw c.in_default.is at c.self.invariant in
    c.requires.room ∙ sym (ap (λ (v : Rows). v.width) c.self.view_is)
    ∙ sym (are.long c.args.number c.in-Some-row.kept.now (sym c.in-Some-row.ensures))

pub returns-in_default-clause-row : goal.returns-in_default-clause-row
returns-in_default-clause-row c = λ _.
    rw (← c.self.view_is, c.in_default.is) (row_there None c.self.inside.width c.self.inside.wide c.args.number
    c.in-Some-row.kept.now c.copy_from_slice.new.self (sym c.in-Some-row.ensures)
    (sym c.copy_from_slice.ensures.after))

pub returns-in_default-word-clause-none : goal.returns-in_default-word-clause-none
returns-in_default-word-clause-none c = λ _.
    let none : slice_get c.self.inside.words.rows c.args.number ≡ None = search rules in
    rw (← c.self.view_is, c.in-Some.is) (no_row_there (Some c.in-Some.bits) c.self.inside.width c.self.inside.words
    c.args.number none)

pub returns-clause-row : goal.returns-clause-row
returns-clause-row c = λ _.
    let bits = c.in-Some.bits in
    let width = c.self.inside.width in
    let word = c.in-Some-word.word in
    let room : length c.args.row.now ≡ width = c.requires.room ∙ sym (ap (λ (v : Rows). v.width) c.self.view_is) in
    let row : c.unpack.new.row ≡ row_of (Some bits) width (kept_word word) =
    c.unpack.ensures.row ∙ ap (λ n. unpacked bits (n - 1) word) room in
    let there : slice_get c.self.inside.words.rows c.args.number ≡ Some (kept_word word) = search rules in
    rw (← c.self.view_is, c.in-Some.is) (row_there (Some bits) width c.self.inside.words c.args.number (kept_word word)
    c.unpack.new.row there (sym row))
