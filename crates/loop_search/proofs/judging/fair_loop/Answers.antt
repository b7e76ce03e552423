use Rattle.std.proofs.Common.{ℕ, subst, ◌∙◌}
use Rattle.std.specs.Prelude.{Option}
use Rattle.graph_search.specs.Trees.{state_at}
use Rattle.loop_search.specs.Verdicts.{IsFoundFair, IsTried}
use Rattle.loop_search.proofs.VerdictLemmas.{on_same}
use Rattle.loop_search.proofs.judging.fair_loop.Goals as goal

pub returns-in-Fair-clause-found : goal.returns-in-Fair-clause-found
returns-in-Fair-clause-found g c =
    on_same (λ (next : g.G.Graph.State → ℕ → Option g.G.Graph.State) (at : ℕ → Option g.G.Graph.State).
    IsFoundFair next c.args.actors at c.in-Fair.found)
    (g.G.Graph.next c.args.graph.now) (g.G.Graph.next c.running_at.new.graph)
    (state_at (g.G.Graph.meaning c.args.graph.now) c.args.found.now.nodes)
    (state_at (g.G.Graph.meaning c.running_at.new.graph) c.args.found.now.nodes)
    (c.running_at.ensures.same_graph ∙ c.loop-node.invariant.same_graph)
    (c.running_at.ensures.states ∙ c.loop-node.invariant.states)
    (subst (IsTried (g.G.Graph.next c.running_at.new.graph) c.args.actors
    (state_at (g.G.Graph.meaning c.running_at.new.graph) c.args.found.now.nodes)) c.in-Fair.is
    c.in_ok-found.ensures.tried)
