use Rattle.std.proofs.Common.{◌≡◌, length, Some, None, sym, ◌∙◌, ap, refl}
use Rattle.std.specs.Prelude.{option_map}
use Rattle.interner.specs.Rows.{Rows}
use Rattle.graph_nodes.specs.Kept.{kept_word, kept_of}
use Rattle.graph_nodes.proofs.KeptLemmas.{row_of_word, interned_rows, kept_after, has_room}
use Rattle.graph_nodes.proofs.packed.PackedRows.insert.Goals as goal

pub invariant_of-self : goal.invariant_of-self
invariant_of-self c =
    let wide : length c.args.row.now ≡ c.self.inside.width = c.requires ∙ sym (ap (λ (v : Rows). v.width) c.self.view_is) in
    rw c.in_default.is (kept_after None c.self.inside.width c.self.inside.wide c.insert.new.self c.args.row.now
    c.args.row.now c.insert.result (rw c.in_default.is at c.self.invariant) refl refl wide c.insert.ensures.interned
    c.insert.ensures.unchanged)

pub returns-in_default-clause-interned : goal.returns-in_default-clause-interned
returns-in_default-clause-interned c =
    rw (← c.self.view_is, c.in_default.is) (interned_rows None c.self.inside.width c.self.inside.wide
    c.insert.new.self c.args.row.now c.args.row.now c.insert.result refl c.insert.ensures.interned)

pub pack-requires-clause-room : goal.pack-requires-clause-room
pack-requires-clause-room c =
    let wide : length c.args.row.now ≡ c.self.inside.width = c.requires ∙ sym (ap (λ (v : Rows). v.width) c.self.view_is) in
    has_room c.self.inside.bits c.in-Some.bits c.self.inside.width (length c.args.row.now) c.self.invariant.fit
    c.in-Some.is wide

pub invariant_of-self-in-Some-pack : goal.invariant_of-self-in-Some-pack
invariant_of-self-in-Some-pack c =
    let wide : length c.args.row.now ≡ c.self.inside.width = c.requires ∙ sym (ap (λ (v : Rows). v.width) c.self.view_is) in
    let means = row_of_word c.in-Some.bits c.self.inside.width c.in-Some-pack.word c.args.row.now wide
    c.in-Some-pack.ensures.back in
    let fits : kept_of (Some c.in-Some.bits) c.args.row.now ≡ Some (kept_word c.in-Some-pack.word) =
    ap (option_map kept_word) (sym c.pack.ensures.word ∙ c.in-Some-pack.is) in
    rw c.in-Some.is (kept_after (Some c.in-Some.bits) c.self.inside.width c.self.inside.words
    c.insert-in-Some-pack.new.self (kept_word c.in-Some-pack.word) c.args.row.now c.insert-in-Some-pack.result
    (rw c.in-Some.is at c.self.invariant) means fits wide c.insert-in-Some-pack.ensures.interned
    c.insert-in-Some-pack.ensures.unchanged)

pub returns-in-Some-pack-clause-interned : goal.returns-in-Some-pack-clause-interned
returns-in-Some-pack-clause-interned c =
    let wide : length c.args.row.now ≡ c.self.inside.width = c.requires ∙ sym (ap (λ (v : Rows). v.width) c.self.view_is) in
    let means = row_of_word c.in-Some.bits c.self.inside.width c.in-Some-pack.word c.args.row.now wide
    c.in-Some-pack.ensures.back in
    rw (← c.self.view_is, c.in-Some.is) (interned_rows (Some c.in-Some.bits) c.self.inside.width c.self.inside.words
    c.insert-in-Some-pack.new.self (kept_word c.in-Some-pack.word) c.args.row.now c.insert-in-Some-pack.result means
    c.insert-in-Some-pack.ensures.interned)
