use Rattle.std.proofs.Common.{◌≡◌, arith, sym, ◌∙◌, rules, refl}
use Rattle.graph_search.specs.Rounds.{IsBehind}
use Rattle.graph_search.proofs.TreeLemmas.{same_first}
use Rattle.graph_search.proofs.by_rounds.search_rounds.Goals as goal

pub loop-now-init : goal.loop-now-init
loop-now-init g c =
    let node = c.in_ok-now.ensures.node in
    record {
      same_graph = c.first_round.ensures.same_graph;
      same_labels = c.first_round.ensures.same_labels;
      same_width = c.first_round.ensures.same_width;
      same_rows = refl;
      wide = search rules;
      labels = search rules;
      long = search rules;
      rows = search rules;
      first = same_first (g.G.Graph.next c.args.graph.now) (g.G.Graph.next c.first_round.new.graph)
          (g.G.Graph.meaning c.args.graph.now) (g.G.Graph.meaning c.first_round.new.graph) c.args.limit
          c.args.tree.now.nodes.rows c.args.tree.now.edges.items c.args.node 0 c.requires.before
          c.first_round.ensures.same_graph c.first_round.ensures.kept;
      onward = omega arith;
      stands = c.in_ok-now.ensures.stands;
    }

pub loop-now-preserved : goal.loop-now-preserved
loop-now-preserved g c =
    let was = c.loop-now.invariant in
    let onward = was.onward in
    let behind : IsBehind c.args.limit (g.G.Graph.width c.loop-now.graph) (g.G.Graph.label_count c.loop-now.graph)
    c.loop-now.tree.nodes.rows c.loop-now.now c.take_nodes.new.next =
    rw (sym was.wide, sym was.labels) c.take_nodes.ensures in
    let now : c.swap.new.x ≡ c.take_round.new.next = c.swap.ensures.x_after in
    let next : c.swap.new.y ≡ c.loop-now.now = c.swap.ensures.y_after in
    let after = c.in_ok-take_round.ensures.after c.args.limit was.stands behind in
    let place = after.searching in
    let first = c.take_round.ensures.same_first ∙ c.take_nodes.ensures.first in
    record {
      same_graph = c.take_round.ensures.same_graph ∙ was.same_graph;
      same_labels = c.take_round.ensures.same_labels ∙ was.same_labels;
      same_width = c.take_round.ensures.same_width ∙ was.same_width;
      same_rows = c.take_round.ensures.same_rows ∙ was.same_rows;
      wide = c.take_round.ensures.same_rows ∙ (was.wide ∙ sym c.take_round.ensures.same_width);
      labels = was.labels ∙ sym c.take_round.ensures.same_labels;
      long = rw (next, c.take_round.ensures.same_width) was.stands.long;
      rows = rw (next, c.take_round.ensures.same_width, c.take_round.ensures.same_labels) was.stands.rows;
      first = c.in_ok-take_round.ensures.first ∙ was.first;
      onward = rw (now, first) (omega arith);
      stands = rw now after;
    }
