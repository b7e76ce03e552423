use Rattle.std.proofs.Common.{ℕ, subst}
use Rattle.std.specs.Prelude.{Option}
use Rattle.graph_search.specs.Trees.{state_at}
use Rattle.loop_search.specs.Verdicts.{IsFoundLoop, IsTried}
use Rattle.loop_search.proofs.VerdictLemmas.{on_same, fair_is_loop}
use Rattle.loop_search.proofs.judging.any_loop.Goals as goal

pub returns-in-Fair-clause-found : goal.returns-in-Fair-clause-found
returns-in-Fair-clause-found g c =
    on_same (λ (next : g.G.Graph.State → ℕ → Option g.G.Graph.State) (at : ℕ → Option g.G.Graph.State).
    IsFoundLoop next c.args.actors at c.in-Fair.found)
    (g.G.Graph.next c.args.graph.now) (g.G.Graph.next c.loop-node.graph)
    (state_at (g.G.Graph.meaning c.args.graph.now) c.args.found.now.nodes)
    (state_at (g.G.Graph.meaning c.loop-node.graph) c.args.found.now.nodes)
    c.loop-node.invariant.same_graph c.loop-node.invariant.states
    (fair_is_loop (g.G.Graph.next c.loop-node.graph) c.args.actors
    (state_at (g.G.Graph.meaning c.loop-node.graph) c.args.found.now.nodes) c.in-Fair.found (subst (IsTried (g.G.Graph.next c.loop-node.graph) c.args.actors
    (state_at (g.G.Graph.meaning c.loop-node.graph) c.args.found.now.nodes)) c.in-Fair.is
    c.in_ok-found.ensures.tried))

pub returns-in-Loop-clause-found : goal.returns-in-Loop-clause-found
returns-in-Loop-clause-found g c =
    on_same (λ (next : g.G.Graph.State → ℕ → Option g.G.Graph.State) (at : ℕ → Option g.G.Graph.State).
    IsFoundLoop next c.args.actors at c.in-Loop.found)
    (g.G.Graph.next c.args.graph.now) (g.G.Graph.next c.loop-node.graph)
    (state_at (g.G.Graph.meaning c.args.graph.now) c.args.found.now.nodes)
    (state_at (g.G.Graph.meaning c.loop-node.graph) c.args.found.now.nodes)
    c.loop-node.invariant.same_graph c.loop-node.invariant.states
    (subst (IsTried (g.G.Graph.next c.loop-node.graph) c.args.actors
    (state_at (g.G.Graph.meaning c.loop-node.graph) c.args.found.now.nodes)) c.in-Loop.is
    c.in_ok-found.ensures.tried)
