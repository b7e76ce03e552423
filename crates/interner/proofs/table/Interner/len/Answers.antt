use Rattle.std.proofs.Common.{sym}
use Rattle.interner.proofs.RowLemmas.{length-rows_of, rows_distinct}
use Rattle.interner.proofs.table.Interner.len.Goals as goal

pub returns-clause-count : goal.returns-clause-count
returns-clause-count c =
    rw (← c.self.view_is) (sym (length-rows_of c.self.inside.width c.self.inside.numbers.items c.self.inside.count))

pub returns-clause-distinct : goal.returns-clause-distinct
returns-clause-distinct c =
    rw (← c.self.view_is) (rows_distinct c.self.inside.width c.self.inside.numbers.items c.self.inside.count
    c.self.invariant.distinct)
