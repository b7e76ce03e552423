use Rattle.std.proofs.Common.{◌≡◌, Bool, true, false, refl, arith, sym, ◌∙◌, subst, rules}
use Rattle.graph_search.specs.declared.edges.Edge.{Edge}
use Rattle.graph_search.specs.Searches.{GoesOn}
use Rattle.graph_search.proofs.TreeLemmas.{node_has_meaning, same_search, same_first, step_taken, searching_next}
use Rattle.graph_search.proofs.search.expand.Goals as goal

pub step-requires-clause-meant : goal.step-requires-clause-meant
step-requires-clause-meant g c =
    node_has_meaning (g.G.Graph.next c.args.graph.now) (g.G.Graph.meaning c.args.graph.now) c.args.limit
    c.args.tree.now.nodes.rows c.args.tree.now.edges.items c.args.first.from c.args.first.label c.read.new.self.node.items
    c.requires.before c.requires.there c.read.ensures.node

pub loop-label-init : goal.loop-label-init
loop-label-init g c = record {
  same_rows = refl;
  ending = search rules;
  here = refl;
  grown = omega arith;
  there = c.requires.there;
  first = same_first (g.G.Graph.next c.args.graph.now) (g.G.Graph.next c.step.new.graph)
      (g.G.Graph.meaning c.args.graph.now) (g.G.Graph.meaning c.step.new.graph) c.args.limit
      c.args.tree.now.nodes.rows c.args.tree.now.edges.items c.args.first.from c.args.first.label c.requires.before
      c.step.ensures.same_graph c.step.ensures.kept;
  before = same_search (g.G.Graph.next c.args.graph.now) (g.G.Graph.next c.step.new.graph)
      (g.G.Graph.meaning c.args.graph.now) (g.G.Graph.meaning c.step.new.graph) c.args.limit
      c.args.tree.now.nodes.rows c.args.tree.now.edges.items c.args.first.from c.args.first.label c.requires.before
      c.step.ensures.same_graph c.step.ensures.kept;
}

pub returns-then-not-branch-clause-after : goal.returns-then-not-branch-clause-after
returns-then-not-branch-clause-after g c =
    let edge : Edge = record { from = c.args.first.from; label = c.loop-label.label } in
    let ending = c.loop-label.invariant.ending in
    let labels = c.step.ensures.same_labels in
    let before = c.loop-label-test.true in
    let here = c.loop-label.invariant.here in
    let begun = c.loop-label.auto.label in
    let t = step_taken (g.G.Graph.next c.step.new.graph) (g.G.Graph.meaning c.args.graph.now)
    (g.G.Graph.meaning c.step.new.graph) c.args.limit (g.G.Graph.width c.args.graph.now)
    c.loop-label.tree.nodes.width c.loop-label.tree.nodes.rows c.loop-label.tree.edges.items edge c.args.first.label
    (g.G.Graph.label_count c.args.graph.now) c.read.new.self.node.items c.step.new.self.leads.items
    c.step.new.self.rows.items c.follow.new.tree.nodes.rows c.follow.new.tree.edges.items c.in_ok-follow.field-0
    c.loop-label.invariant.before c.loop-label.invariant.there (here ∙ c.read.ensures.node)
    (node_has_meaning (g.G.Graph.next c.args.graph.now) (g.G.Graph.meaning c.args.graph.now) c.args.limit
    c.args.tree.now.nodes.rows c.args.tree.now.edges.items c.args.first.from c.args.first.label c.read.new.self.node.items
    c.requires.before c.requires.there c.read.ensures.node) c.step.ensures.kept c.in_ok-step.ensures.one_node c.in_ok-step.ensures.count
    c.in_ok-step.ensures.steps (c.loop-label.invariant.same_rows ∙ c.requires.wide) begun (omega arith)
    c.in_ok-follow.ensures.followed in
    let off : c.in_ok-follow.field-0 ≡ false = search rules in
    let more = t.3 in
    let there = c.loop-label.invariant.there in
    let cut : GoesOn (g.G.Graph.next c.step.new.graph) (g.G.Graph.meaning c.step.new.graph) c.args.limit edge
    c.follow.new.tree.nodes.rows c.follow.new.tree.edges.items false = subst (λ (b : Bool).
    GoesOn (g.G.Graph.next c.step.new.graph) (g.G.Graph.meaning c.step.new.graph) c.args.limit edge
    c.follow.new.tree.nodes.rows c.follow.new.tree.edges.items b) off t.0 in
    (omega arith, cut.0, cut.1)

pub loop-label-preserved : goal.loop-label-preserved
loop-label-preserved g c =
    let edge : Edge = record { from = c.args.first.from; label = c.loop-label.label } in
    let ending = c.loop-label.invariant.ending in
    let labels = c.step.ensures.same_labels in
    let before = c.loop-label-test.true in
    let here = c.loop-label.invariant.here in
    let begun = c.loop-label.auto.label in
    let t = step_taken (g.G.Graph.next c.step.new.graph) (g.G.Graph.meaning c.args.graph.now)
    (g.G.Graph.meaning c.step.new.graph) c.args.limit (g.G.Graph.width c.args.graph.now)
    c.loop-label.tree.nodes.width c.loop-label.tree.nodes.rows c.loop-label.tree.edges.items edge c.args.first.label
    (g.G.Graph.label_count c.args.graph.now) c.read.new.self.node.items c.step.new.self.leads.items
    c.step.new.self.rows.items c.follow.new.tree.nodes.rows c.follow.new.tree.edges.items c.in_ok-follow.field-0
    c.loop-label.invariant.before c.loop-label.invariant.there (here ∙ c.read.ensures.node)
    (node_has_meaning (g.G.Graph.next c.args.graph.now) (g.G.Graph.meaning c.args.graph.now) c.args.limit
    c.args.tree.now.nodes.rows c.args.tree.now.edges.items c.args.first.from c.args.first.label c.read.new.self.node.items
    c.requires.before c.requires.there c.read.ensures.node) c.step.ensures.kept c.in_ok-step.ensures.one_node c.in_ok-step.ensures.count
    c.in_ok-step.ensures.steps (c.loop-label.invariant.same_rows ∙ c.requires.wide) begun (omega arith)
    c.in_ok-follow.ensures.followed in
    let on : c.in_ok-follow.field-0 ≡ true = search rules in
    let more = t.3 in
    let there = c.loop-label.invariant.there in
    let grown = c.loop-label.invariant.grown in
    let after : GoesOn (g.G.Graph.next c.step.new.graph) (g.G.Graph.meaning c.step.new.graph) c.args.limit edge
    c.follow.new.tree.nodes.rows c.follow.new.tree.edges.items true = subst (λ (b : Bool).
    GoesOn (g.G.Graph.next c.step.new.graph) (g.G.Graph.meaning c.step.new.graph) c.args.limit edge
    c.follow.new.tree.nodes.rows c.follow.new.tree.edges.items b) on t.0 in
    record {
      same_rows = c.follow.ensures.same_width ∙ c.loop-label.invariant.same_rows;
      ending = ending;
      here = t.2 ∙ sym c.read.ensures.node;
      grown = omega arith;
      there = omega arith;
      first = t.1 ∙ c.loop-label.invariant.first;
      before = after;
    }

pub returns-clause-after : goal.returns-clause-after
returns-clause-after g c =
    let ending = c.loop-label.invariant.ending in
    let over = c.loop-label-test.false in
    searching_next (g.G.Graph.next c.step.new.graph) (g.G.Graph.meaning c.step.new.graph) c.args.limit
    c.loop-label.tree.nodes.rows c.loop-label.tree.edges.items c.args.first.from c.loop-label.label
    c.loop-label.invariant.before (λ s m above. g.met.G.Graph.none_beyond c.step.new.graph s m (omega arith))
