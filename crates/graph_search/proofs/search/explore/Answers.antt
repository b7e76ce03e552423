use Rattle.graph_search.proofs.TreeLemmas.{searching_begins, some_of}
use Rattle.graph_search.proofs.search.explore.Goals as goal

pub search_on-requires-clause-before : goal.search_on-requires-clause-before
search_on-requires-clause-before g c =
    let start = some_of (g.G.Graph.meaning c.args.graph.now c.args.start.now) c.requires.opened in
    rw c.in_ok-tree.ensures.nodes (searching_begins (g.G.Graph.next c.args.graph.now)
    (g.G.Graph.meaning c.args.graph.now) c.args.limit c.args.start.now c.in_ok-tree.tree.edges.items start.0
    c.requires.some c.in_ok-tree.ensures.edges start.1)
