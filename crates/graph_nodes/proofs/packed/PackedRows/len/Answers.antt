use Rattle.std.proofs.Common.{None, sym, ◌∙◌}
use Rattle.std.proofs.lemmas.List.{length-map}
use Rattle.graph_nodes.specs.Kept.{row_of}
use Rattle.graph_nodes.proofs.KeptLemmas.{rows_distinct}
use Rattle.graph_nodes.proofs.packed.PackedRows.len.Goals as goal

pub returns-in_default-clause-count : goal.returns-in_default-clause-count
returns-in_default-clause-count c =
    rw (← c.self.view_is, c.in_default.is) (c.len.ensures.count
    ∙ sym (length-map c.self.inside.wide.rows (row_of None c.self.inside.width)))

pub returns-in_default-clause-distinct : goal.returns-in_default-clause-distinct
returns-in_default-clause-distinct c =
    rw (← c.self.view_is, c.in_default.is) (rows_distinct None c.self.inside.width c.self.inside.wide
    (rw c.in_default.is at c.self.invariant) c.len.ensures.distinct)

pub returns-clause-count : goal.returns-clause-count
returns-clause-count c =
    rw (← c.self.view_is, c.in-Some.is) (c.len-2.ensures.count ∙ sym (length-map c.self.inside.words.rows _))

pub returns-clause-distinct : goal.returns-clause-distinct
returns-clause-distinct c =
    rw (← c.self.view_is, c.in-Some.is) (rows_distinct _ c.self.inside.width c.self.inside.words
    (rw c.in-Some.is at c.self.invariant) c.len-2.ensures.distinct)
