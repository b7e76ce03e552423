use Rattle.std.proofs.Common.{◌≡◌, ℕ, ◌<◌, length, get_or, rules, ◌∙◌}
use Rattle.std.specs.Prelude.{Some}
use Rattle.graph_search.specs.Trees.{state_at}
use Rattle.graph_loops.proofs.LabelLemmas.{walk_more, way_more, way_whole, same_edge, of_some}
use Rattle.graph_loops.proofs.labels.walk_end.Goals as goal

pub loop-label-preserved : goal.loop-label-preserved
loop-label-preserved g c =
    let there : c.in-Some.to < length c.args.found.now.nodes =
    of_some (λ (to : ℕ). to < length c.args.found.now.nodes) c.in_ok-to.field-0 c.in-Some.to c.in-Some.is
    c.in_ok-to.ensures.there in
    let target = of_some (λ (to : ℕ). (s : g.G.Graph.State) →
    state_at (g.G.Graph.meaning c.loop-label.graph) c.args.found.now.nodes c.loop-label.here ≡ Some s →
    g.G.Graph.next c.loop-label.graph s (get_or c.args.labels.now c.loop-label.label-index 0)
    ≡ state_at (g.G.Graph.meaning c.loop-label.graph) c.args.found.now.nodes to) c.in_ok-to.field-0 c.in-Some.to
    c.in-Some.is c.in_ok-to.ensures.target in
    let walk = walk_more (g.G.Graph.next c.args.graph.now)
    (state_at (g.G.Graph.meaning c.args.graph.now) c.args.found.now.nodes) (length c.args.found.now.nodes)
    c.loop-label.label-index c.args.node c.loop-label.here c.in-Some.to c.args.labels.now c.requires.meant
    c.loop-label.invariant.there c.loop-label-test.true c.loop-label.invariant.walk
    (same_edge (g.G.Graph.next c.args.graph.now) (g.G.Graph.next c.loop-label.graph)
    (state_at (g.G.Graph.meaning c.args.graph.now) c.args.found.now.nodes)
    (state_at (g.G.Graph.meaning c.loop-label.graph) c.args.found.now.nodes) c.loop-label.here
    (get_or c.args.labels.now c.loop-label.label-index 0) c.in-Some.to c.loop-label.invariant.same_graph
    c.loop-label.invariant.states target) in
    record {
      same_graph = c.target_of.ensures.same_graph ∙ c.loop-label.invariant.same_graph;
      same_labels = c.target_of.ensures.same_labels ∙ c.loop-label.invariant.same_labels;
      same_width = c.target_of.ensures.same_width ∙ c.loop-label.invariant.same_width;
      states = c.target_of.ensures.states ∙ c.loop-label.invariant.states;
      meant = c.target_of.ensures.meant;
      room = search rules;
      there = there;
      walk = walk;
      way = way_more (g.G.Graph.next c.args.graph.now)
          (state_at (g.G.Graph.meaning c.args.graph.now) c.args.found.now.nodes) c.loop-label.label-index c.args.node
          c.in-Some.to c.args.labels.now walk c.loop-label.invariant.way;
    }

pub returns-clause-way : goal.returns-clause-way
returns-clause-way g c = λ _.
    way_whole (g.G.Graph.next c.args.graph.now) (state_at (g.G.Graph.meaning c.args.graph.now) c.args.found.now.nodes)
    c.loop-label.label-index c.args.node c.args.labels.now c.loop-label-test.false c.loop-label.invariant.way
