use Rattle.std.proofs.Common.{sym, ◌∙◌}
use Rattle.std.proofs.lemmas.List.{length-map}
use Rattle.graph_nodes.specs.Parted.{row_of, rows_at}
use Rattle.graph_nodes.proofs.PartedLemmas.{nodes_distinct}
use Rattle.graph_nodes.proofs.parted.Parted.len.Goals as goal

pub returns-clause-count : goal.returns-clause-count
unfolding rows_at
returns-clause-count c =
    c.len.ensures ∙ c.args.self.now.order.ok.0
    ∙ sym (length-map c.args.self.now.order.items (row_of c.args.self.now.tasks.items))

pub returns-clause-distinct : goal.returns-clause-distinct
returns-clause-distinct c =
    nodes_distinct c.args.self.now.width c.args.self.now.tasks.items c.args.self.now.order.items c.requires
