use Rattle.std.proofs.Common.{ℕ, List, length, ap, ◌∙◌}
use Rattle.std.specs.Prelude.{option_map}
use Rattle.states.proofs.NodeLemmas.{is_some, node_of}
use Rattle.owned_search.specs.Graphs.{placed, placed_in, start_in, state_in}
use Rattle.owned_search.proofs.NodeLemmas.{nodes_begun}
use Rattle.owned_search.proofs.nodes.Nodes.search.Goals as goal

pub explore-requires-clause-opened : goal.explore-requires-clause-opened
explore-requires-clause-opened g c =
    let graph = c.in_ok-graph.graph in
    is_some (placed_in graph c.as_slice.result.now) (placed graph (start_in graph))
    (ap (placed_in graph) c.as_slice.ensures.value ∙ ap (option_map (placed graph)) c.in_ok-graph.ensures.row)

pub explore-requires-clause-wide : goal.explore-requires-clause-wide
explore-requires-clause-wide g c =
    ap (λ (row : List ℕ). length row) c.as_slice.ensures.value
    ∙ (node_of c.in_ok-graph.graph.graph.graph c.in_ok-graph.start.items _ c.in_ok-graph.ensures.row).width

pub returns-clause-nodes : goal.returns-clause-nodes
returns-clause-nodes g c =
    (nodes_begun c.args.turns.image.now c.args.turns.sees.now c.args.turns.live.now c.args.turns.shared.now c.in_ok-graph.graph
    c.explore.new.graph c.as_slice.result.now c.in_ok-reached.reached c.args.limit c.granules-granules.ensures.formed
    c.in_ok-graph.ensures.graph (ap (state_in c.in_ok-graph.graph) c.as_slice.ensures.value ∙ c.in_ok-graph.ensures.row)
    (λ p is. c.in_ok-reached.ensures.explored p is) c.in_ok-reached.ensures.wide c.in_ok-reached.ensures.stands).1

pub returns-clause-graph : goal.returns-clause-graph
returns-clause-graph g c =
    (nodes_begun c.args.turns.image.now c.args.turns.sees.now c.args.turns.live.now c.args.turns.shared.now c.in_ok-graph.graph
    c.explore.new.graph c.as_slice.result.now c.in_ok-reached.reached c.args.limit c.granules-granules.ensures.formed
    c.in_ok-graph.ensures.graph (ap (state_in c.in_ok-graph.graph) c.as_slice.ensures.value ∙ c.in_ok-graph.ensures.row)
    (λ p is. c.in_ok-reached.ensures.explored p is) c.in_ok-reached.ensures.wide c.in_ok-reached.ensures.stands).0
