use Rattle.std.proofs.Common.{◌∙◌}
use Rattle.graph_search.proofs.TreeLemmas.{ends}
use Rattle.graph_search.proofs.search.search_on.Goals as goal

pub returns-clause-explored : goal.returns-clause-explored
returns-clause-explored g c s means =
    rw (c.new-2.ensures.nodes, c.new-2.ensures.edges, c.new-2.ensures.complete)
    (ends (g.G.Graph.next c.expand_all.new.graph) (g.G.Graph.meaning c.expand_all.new.graph) c.args.limit
    c.expand_all.new.tree.nodes.rows c.expand_all.new.tree.edges.items c.in_ok-cut.cut s
    c.in_ok-cut.ensures.after (c.in_ok-cut.ensures.first ∙ means))
