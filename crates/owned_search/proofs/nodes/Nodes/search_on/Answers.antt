use Rattle.std.proofs.Common.{◌≤◌, length, arith}
use Rattle.owned_search.specs.Graphs.{placed, start_in}
use Rattle.owned_search.proofs.NodeLemmas.{first_placed, nodes_found, numbers_kept}
use Rattle.owned_search.proofs.nodes.Nodes.search_on.Goals as goal

pub explore_more-requires-clause-more : goal.explore_more-requires-clause-more
explore_more-requires-clause-more g c =
    let within = c.requires.nodes.nodes.within in
    let more = c.requires.more in
    omega arith

pub explore_more-requires-clause-wide : goal.explore_more-requires-clause-wide
explore_more-requires-clause-wide g c = c.requires.nodes.wide

pub explore_more-requires-clause-stands : goal.explore_more-requires-clause-stands
explore_more-requires-clause-stands g c = (c.args.self.limit, c.requires.nodes.stands)

pub returns-clause-nodes : goal.returns-clause-nodes
returns-clause-nodes g c =
    let before = c.args.self.graph in
    let found = nodes_found before c.explore_more.new.graph c.in_ok-reached.reached c.args.limit c.requires.nodes.formed
    (c.in_ok-reached.ensures.explored (placed before (start_in before))
    (first_placed before c.args.self.reached c.args.self.limit c.requires.nodes)) c.in_ok-reached.ensures.wide
    c.in_ok-reached.ensures.stands in
    found.1

pub returns-clause-graph : goal.returns-clause-graph
returns-clause-graph g c =
    let before = c.args.self.graph in
    let found = nodes_found before c.explore_more.new.graph c.in_ok-reached.reached c.args.limit c.requires.nodes.formed
    (c.in_ok-reached.ensures.explored (placed before (start_in before))
    (first_placed before c.args.self.reached c.args.self.limit c.requires.nodes)) c.in_ok-reached.ensures.wide
    c.in_ok-reached.ensures.stands in
    found.0

pub returns-clause-numbers : goal.returns-clause-numbers
returns-clause-numbers g c =
    let within = c.requires.nodes.nodes.within in
    let more = c.requires.more in
    let enough : length c.args.self.reached.nodes ≤ c.args.limit = omega arith in
    numbers_kept c.args.self.graph c.explore_more.new.graph c.args.self.reached c.in_ok-reached.reached c.args.self.limit c.args.limit
    c.explore_more.ensures.same_graph (returns-clause-graph g c) c.requires.nodes (returns-clause-nodes g c) enough
