use Rattle.std.proofs.Common.{ℕ, ◌∙◌}
use Rattle.std.specs.Prelude.{Option, IfOk}
use Rattle.graph_search.specs.Trees.{state_at}
use Rattle.graph_loops.proofs.LabelLemmas.{of_some}
use Rattle.loop_search.specs.Verdicts.{IsFoundFair, IsVerdict}
use Rattle.loop_search.proofs.VerdictLemmas.{on_same}
use Rattle.loop_search.proofs.judging.search_components.Goals as goal

pub returns-in-Some-clause-verdict : goal.returns-in-Some-clause-verdict
returns-in-Some-clause-verdict g c =
    on_same (λ (next : g.G.Graph.State → ℕ → Option g.G.Graph.State) (at : ℕ → Option g.G.Graph.State).
    IsFoundFair next c.args.actors at c.in-Some.fair)
    (g.G.Graph.next c.args.graph.now) (g.G.Graph.next c.movers_of.new.graph)
    (state_at (g.G.Graph.meaning c.args.graph.now) c.args.found.now.nodes)
    (state_at (g.G.Graph.meaning c.movers_of.new.graph) c.args.found.now.nodes)
    (c.movers_of.ensures.same_graph ∙ c.components_of.ensures.same_graph)
    (c.movers_of.ensures.states ∙ c.components_of.ensures.states)
    (of_some (IsFoundFair (g.G.Graph.next c.movers_of.new.graph) c.args.actors
    (state_at (g.G.Graph.meaning c.movers_of.new.graph) c.args.found.now.nodes))
    c.in_ok-fair.field-0 c.in-Some.fair c.in-Some.is c.in_ok-fair.ensures.found)

pub returns-clause-verdict : goal.returns-clause-verdict
returns-clause-verdict g c =
    on_same (λ (next : g.G.Graph.State → ℕ → Option g.G.Graph.State) (at : ℕ → Option g.G.Graph.State).
    IfOk c.judge_components.result (IsVerdict next c.args.actors at c.args.found.now.complete))
    (g.G.Graph.next c.args.graph.now) (g.G.Graph.next c.fair_loop.new.graph)
    (state_at (g.G.Graph.meaning c.args.graph.now) c.args.found.now.nodes)
    (state_at (g.G.Graph.meaning c.fair_loop.new.graph) c.args.found.now.nodes)
    (c.fair_loop.ensures.same_graph ∙ (c.movers_of.ensures.same_graph ∙ c.components_of.ensures.same_graph))
    (c.fair_loop.ensures.states ∙ (c.movers_of.ensures.states ∙ c.components_of.ensures.states))
    c.judge_components.ensures.verdict
