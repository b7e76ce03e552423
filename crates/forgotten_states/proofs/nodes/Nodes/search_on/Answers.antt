use Rattle.std.proofs.Common.{◌≡◌, ◌≤◌, ◌+◌, ℕ, length, ◌∙◌, ap, sym, arith}
use Rattle.hart_order.specs.GroupedTurns.{grouped_start}
use Rattle.forgotten_states.proofs.NodeLemmas.{nodes_found, numbers_kept}
use Rattle.forgotten_states.proofs.nodes.Nodes.search_on.Goals as goal

pub explore_more-requires-clause-more : goal.explore_more-requires-clause-more
explore_more-requires-clause-more g c =
    let within = c.requires.nodes.4.nodes.within in
    let more = c.requires.more in
    omega arith

pub explore_more-requires-clause-wide : goal.explore_more-requires-clause-wide
explore_more-requires-clause-wide g c = c.requires.nodes.4.wide ∙ ap (λ (n : ℕ). n + 1) (sym c.requires.nodes.4.harts)

pub explore_more-requires-clause-stands : goal.explore_more-requires-clause-stands
explore_more-requires-clause-stands g c = (c.args.self.limit, c.requires.nodes.4.stands)

pub returns-clause-nodes : goal.returns-clause-nodes
returns-clause-nodes g c image sight live groups are =
    let width : length c.explore_more.new.graph.graph.image.harts + 1 ≡ length c.args.self.graph.graph.image.harts + 1 =
    c.explore_more.ensures.same_width in
    let same = are.harts in
    let harts : length c.explore_more.new.graph.graph.image.harts ≡ length image.harts = omega arith in
    nodes_found image sight live groups c.explore_more.new.graph c.in_ok-reached.reached
    c.args.limit (c.explore_more.ensures.same_graph ∙ are.edges) harts are.few
    (c.in_ok-reached.ensures.explored (grouped_start image sight live groups) are.nodes.first) c.in_ok-reached.ensures.wide
    c.in_ok-reached.ensures.stands

pub returns-clause-numbers : goal.returns-clause-numbers
returns-clause-numbers g c =
    let are = c.requires.nodes.4 in
    let within = are.nodes.within in
    let more = c.requires.more in
    let enough : length c.args.self.reached.nodes ≤ c.args.limit = omega arith in
    numbers_kept c.requires.nodes.0 c.requires.nodes.1 c.requires.nodes.2 c.requires.nodes.3 c.args.self.graph c.explore_more.new.graph
    c.args.self.reached c.in_ok-reached.reached c.args.self.limit c.args.limit c.explore_more.ensures.same_graph are
    (returns-clause-nodes g c c.requires.nodes.0 c.requires.nodes.1 c.requires.nodes.2 c.requires.nodes.3 are) enough
