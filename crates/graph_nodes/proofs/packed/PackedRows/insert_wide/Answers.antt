use Rattle.std.proofs.Common.{◌≡◌, length, None, sym, ◌∙◌, ap, refl, subst}
use Rattle.std.specs.Prelude.{IfOk}
use Rattle.std.proofs.lemmas.Result.{on_err_weaker}
use Rattle.interner.specs.Rows.{Rows, IsInterned}
use Rattle.graph_nodes.specs.Kept.{kept_in, rows_of, AreKept}
use Rattle.graph_nodes.proofs.KeptLemmas.{interned_rows, kept_after, rows_kept, rows_themselves}
use Rattle.graph_nodes.proofs.packed.PackedRows.insert_wide.Goals as goal

pub invariant_of-self : goal.invariant_of-self
invariant_of-self c =
    let wide : length c.args.row.now ≡ c.self.inside.width = c.requires ∙ sym (ap (λ (v : Rows). v.width) c.self.view_is) in
    let rows = c.in_ok-self-inside.ensures ∙ sym c.self.view_is in
    let are : AreKept None c.self.inside.width c.in_ok-self-inside.field-0 =
    rows_kept c.self.inside.bits c.self.inside.width
    (kept_in c.self.inside.bits c.self.inside.words c.self.inside.wide) c.in_ok-self-inside.field-0 c.self.invariant
    rows in
    kept_after None c.self.inside.width c.in_ok-self-inside.field-0 c.insert.new.self c.args.row.now c.args.row.now
    c.insert.result are refl refl wide c.insert.ensures.interned c.insert.ensures.unchanged

pub returns-clause-interned : goal.returns-clause-interned
returns-clause-interned c =
    let width = c.self.inside.width in
    let wide = c.in_ok-self-inside.field-0 in
    let as_wide = ap (λ (v : Rows). v.width) (c.in_ok-self-inside.ensures ∙ sym c.self.view_is) in
    let before = rows_themselves width wide as_wide ∙ c.in_ok-self-inside.ensures in
    subst (λ (old : Rows). IfOk c.insert.result (λ number.
    IsInterned old (rows_of None width c.insert.new.self) c.args.row.now number)) before
    (interned_rows None width wide c.insert.new.self c.args.row.now c.args.row.now c.insert.result refl
    c.insert.ensures.interned)

pub returns-clause-unchanged : goal.returns-clause-unchanged
returns-clause-unchanged c =
    let as_wide = ap (λ (v : Rows). v.width) (c.in_ok-self-inside.ensures ∙ sym c.self.view_is) in
    on_err_weaker c.insert.result
    (λ same. rows_themselves c.self.inside.width c.insert.new.self (c.insert.ensures.same_width ∙ as_wide)
    ∙ same ∙ c.in_ok-self-inside.ensures) c.insert.ensures.unchanged
