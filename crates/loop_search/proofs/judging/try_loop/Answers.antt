use Rattle.std.proofs.Common.{ℕ, length, subst}
use Rattle.std.specs.Prelude.{Option}
use Rattle.graph_search.specs.Trees.{state_at}
use Rattle.graph_loops.specs.Loops.{IsRound}
use Rattle.loop_search.specs.declared.judging.FoundLoop.{FoundLoop}
use Rattle.loop_search.specs.Verdicts.{IsFoundLoop, IsFoundFair}
use Rattle.loop_search.proofs.VerdictLemmas.{on_same, loop_followed, fair_followed}
use Rattle.loop_search.proofs.judging.try_loop.Goals as goal

pub returns-in-Loop-clause-tried : goal.returns-in-Loop-clause-tried
returns-in-Loop-clause-tried g c =
    let given : FoundLoop = record { node = c.args.wanted.node; labels = c.in-Some.labels } in
    on_same (λ (next : g.G.Graph.State → ℕ → Option g.G.Graph.State) (at : ℕ → Option g.G.Graph.State).
    IsFoundLoop next c.args.wanted.actors at given)
    (g.G.Graph.next c.args.graph.now) (g.G.Graph.next c.shortest_loop.new.graph)
    (state_at (g.G.Graph.meaning c.args.graph.now) c.args.found.now.nodes)
    (state_at (g.G.Graph.meaning c.shortest_loop.new.graph) c.args.found.now.nodes)
    c.shortest_loop.ensures.same_graph c.shortest_loop.ensures.states
    (loop_followed (g.G.Graph.next c.shortest_loop.new.graph) c.args.wanted.actors
    (state_at (g.G.Graph.meaning c.shortest_loop.new.graph) c.args.found.now.nodes) (length c.args.found.now.nodes)
    given c.shortest_loop.ensures.meant c.requires.there
    (λ s is. subst (IsRound (g.G.Graph.next c.shortest_loop.new.graph) c.args.wanted.actors
    (state_at (g.G.Graph.meaning c.shortest_loop.new.graph) c.args.found.now.nodes) s c.in-Some.labels.items)
    c.in-Loop.is (rw c.as_slice.ensures.value at (c.in_ok-judge_labels.ensures.round s is))))

pub returns-in-FairLoop-clause-tried : goal.returns-in-FairLoop-clause-tried
returns-in-FairLoop-clause-tried g c =
    let given : FoundLoop = record { node = c.args.wanted.node; labels = c.in-Some.labels } in
    on_same (λ (next : g.G.Graph.State → ℕ → Option g.G.Graph.State) (at : ℕ → Option g.G.Graph.State).
    IsFoundFair next c.args.wanted.actors at given)
    (g.G.Graph.next c.args.graph.now) (g.G.Graph.next c.shortest_loop.new.graph)
    (state_at (g.G.Graph.meaning c.args.graph.now) c.args.found.now.nodes)
    (state_at (g.G.Graph.meaning c.shortest_loop.new.graph) c.args.found.now.nodes)
    c.shortest_loop.ensures.same_graph c.shortest_loop.ensures.states
    (fair_followed (g.G.Graph.next c.shortest_loop.new.graph) c.args.wanted.actors
    (state_at (g.G.Graph.meaning c.shortest_loop.new.graph) c.args.found.now.nodes) (length c.args.found.now.nodes)
    given c.shortest_loop.ensures.meant c.requires.there
    (λ s is. subst (IsRound (g.G.Graph.next c.shortest_loop.new.graph) c.args.wanted.actors
    (state_at (g.G.Graph.meaning c.shortest_loop.new.graph) c.args.found.now.nodes) s c.in-Some.labels.items)
    c.in-FairLoop.is (rw c.as_slice.ensures.value at (c.in_ok-judge_labels.ensures.round s is))))
