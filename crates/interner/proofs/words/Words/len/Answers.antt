use Rattle.std.proofs.Common.{◌≡◌, ◌∙◌, sym, length, rules}
use Rattle.interner.proofs.RowLemmas.{length-rows_of, rows_distinct}
use Rattle.interner.proofs.words.Words.len.Goals as goal

pub returns-clause-count : goal.returns-clause-count
returns-clause-count c =
    let words = c.self.inside.words.items in
    let long : c.len.result ≡ length words = search rules in
    rw (← c.self.view_is) (long ∙ sym (length-rows_of 1 words (length words)))

pub returns-clause-distinct : goal.returns-clause-distinct
returns-clause-distinct c =
    rw (← c.self.view_is) (rows_distinct 1 c.self.inside.words.items (length c.self.inside.words.items)
    c.self.invariant.distinct)
