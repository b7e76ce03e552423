use Rattle.std.proofs.Common.{◌≤◌, ◌<◌, arith, ap, sym, ◌∙◌}
use Rattle.std.specs.Prelude.{Some}
use Rattle.interner.proofs.RowLemmas.{no_row, slice_get-rows_of}
use Rattle.interner.proofs.table.Interner.row.Goals as goal

pub returns-then-number-self : goal.returns-then-number-self
returns-then-number-self c =
    let past : c.self.inside.count ≤ c.args.number = omega arith in
    rw (← c.self.view_is) (sym (no_row c.self.inside.width c.self.inside.numbers.items
    c.self.inside.count c.args.number past))

pub returns : goal.returns
returns c =
    let below : c.args.number < c.self.inside.count = omega arith in
    rw (← c.self.view_is) (ap (λ row. Some row) (rw (← c.as_slice.ensures.value) c.row_at.ensures)
    ∙ sym (slice_get-rows_of c.self.inside.width c.self.inside.numbers.items
    c.self.inside.count c.args.number below))
