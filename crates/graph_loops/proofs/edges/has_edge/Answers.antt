use Rattle.std.proofs.Common.{drop}
use Rattle.graph_loops.proofs.EdgeLemmas.{states_kept, meant_kept, edge_there, no_edge_there}
use Rattle.graph_loops.proofs.edges.has_edge.Goals as goal

pub returns-clause-states : goal.returns-clause-states
returns-clause-states g c =
    states_kept (g.G.Graph.meaning c.args.graph.now) (g.G.Graph.meaning c.follow.new.graph) c.args.found.now.nodes
    c.follow.ensures.kept c.requires.meant

pub returns-clause-meant : goal.returns-clause-meant
returns-clause-meant g c =
    meant_kept (g.G.Graph.meaning c.args.graph.now) (g.G.Graph.meaning c.follow.new.graph) c.args.found.now.nodes
    c.follow.ensures.kept c.requires.meant

pub returns-clause-edge : goal.returns-clause-edge
returns-clause-edge g c =
    edge_there (g.G.Graph.meaning c.args.graph.now) (g.G.Graph.meaning c.follow.new.graph)
    (g.G.Graph.next c.args.graph.now) c.args.found.now.nodes c.args.node c.args.label
    (drop (g.G.Graph.width c.args.graph.now) c.follow.new.rows) c.requires.there c.follow.result c.follow.ensures.value

pub returns-clause-none : goal.returns-clause-none
returns-clause-none g c =
    no_edge_there (g.G.Graph.meaning c.args.graph.now) (g.G.Graph.meaning c.follow.new.graph)
    (g.G.Graph.next c.args.graph.now) c.args.found.now.nodes c.args.node c.args.label
    (drop (g.G.Graph.width c.args.graph.now) c.follow.new.rows) c.requires.there c.follow.result c.follow.ensures.value
