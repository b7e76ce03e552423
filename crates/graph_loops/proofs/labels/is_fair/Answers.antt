use Rattle.std.proofs.Common.{◌≡◌, false, rules, ◌∙◌}
use Rattle.graph_search.specs.Trees.{state_at}
use Rattle.graph_loops.proofs.LabelLemmas.{fair_more, no_edge}
use Rattle.graph_loops.proofs.labels.is_fair.Goals as goal

pub loop-actor-preserved : goal.loop-actor-preserved
loop-actor-preserved g c =
    let idle : c.in_ok-has_edge.field-0 ≡ false = search rules in
    record {
      same_graph = c.has_edge.ensures.same_graph ∙ c.loop-actor.invariant.same_graph;
      same_labels = c.has_edge.ensures.same_labels ∙ c.loop-actor.invariant.same_labels;
      same_width = c.has_edge.ensures.same_width ∙ c.loop-actor.invariant.same_width;
      states = c.has_edge.ensures.states ∙ c.loop-actor.invariant.states;
      meant = c.has_edge.ensures.meant;
      room = search rules;
      labelled = search rules;
      fair = fair_more (g.G.Graph.next c.args.graph.now)
          (state_at (g.G.Graph.meaning c.args.graph.now) c.args.found.now.nodes c.args.node) c.args.labels.now
          c.loop-actor.actor c.loop-actor.invariant.fair
          (λ s t is goes. absurd (no_edge (g.G.Graph.next c.args.graph.now) (g.G.Graph.next c.loop-actor.graph)
          (state_at (g.G.Graph.meaning c.args.graph.now) c.args.found.now.nodes)
          (state_at (g.G.Graph.meaning c.loop-actor.graph) c.args.found.now.nodes) c.args.node c.loop-actor.actor
          c.loop-actor.invariant.same_graph c.loop-actor.invariant.states (c.in_ok-has_edge.ensures.none idle) s t is goes));
    }
