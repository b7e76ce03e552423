use Rattle.std.proofs.Common.{◌≡◌, ℕ, true, ap, sym, ◌∙◌, refl, subst, rules}
use Rattle.std.specs.Prelude.{Option, Some, IsSome}
use Rattle.graph_search.specs.Trees.{state_at}
use Rattle.graph_search.specs.Walks.{after, IsWalk}
use Rattle.graph_loops.proofs.LabelLemmas.{of_some}
use Rattle.graph_loops.proofs.labels.judge_labels.Goals as goal

pub returns-then-branch-clause-round : goal.returns-then-branch-clause-round
returns-then-branch-clause-round g c = λ s is.
    let fair : c.in_ok-is_fair.field-0 ≡ true = search rules in
    let walked = of_some (λ (to : ℕ). (s : g.G.Graph.State) →
    state_at (g.G.Graph.meaning c.args.graph.now) c.args.found.now.nodes c.args.node ≡ Some s →
    after (g.G.Graph.next c.args.graph.now) s c.args.labels.now
    ≡ state_at (g.G.Graph.meaning c.args.graph.now) c.args.found.now.nodes to) c.in_ok-end.field-0 c.in-Some-2.end
    c.in-Some-2.is c.in_ok-end.ensures.walk in
    let walk : IsWalk (g.G.Graph.next c.args.graph.now) s c.args.labels.now s =
    walked s is ∙ (ap (state_at (g.G.Graph.meaning c.args.graph.now) c.args.found.now.nodes) c.if-end-node.false ∙ is) in (
      (walk, (c.in-Some._actor, c.in-Some.ensures.0, c.in-Some.ensures.1)),
      c.in_ok-end.ensures.way (subst (λ (o : Option ℕ). IsSome o) (sym c.in-Some-2.is) refl) s is,
      λ m t low goes. c.in_ok-is_fair.ensures.fair fair m s t low
          (ap (λ (at : ℕ → Option g.G.Graph.State). at c.args.node) c.walk_end.ensures.states ∙ is)
          (ap (λ (next : g.G.Graph.State → ℕ → Option g.G.Graph.State). next s m) c.walk_end.ensures.same_graph ∙ goes),
    )
