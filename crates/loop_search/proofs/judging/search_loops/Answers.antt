use Rattle.std.proofs.Common.{ℕ, ◌∙◌}
use Rattle.std.specs.Prelude.{Option, IfOk}
use Rattle.graph_search.specs.Trees.{state_at}
use Rattle.loop_search.specs.Verdicts.{IsVerdict}
use Rattle.loop_search.proofs.VerdictLemmas.{on_same}
use Rattle.loop_search.proofs.judging.search_loops.Goals as goal

pub returns-clause-verdict : goal.returns-clause-verdict
returns-clause-verdict g c =
    on_same (λ (next : g.G.Graph.State → ℕ → Option g.G.Graph.State) (at : ℕ → Option g.G.Graph.State).
    IfOk c.search_components.result (IsVerdict next c.args.actors at c.args.found.now.complete))
    (g.G.Graph.next c.args.graph.now) (g.G.Graph.next c.is_descending.new.graph)
    (state_at (g.G.Graph.meaning c.args.graph.now) c.args.found.now.nodes)
    (state_at (g.G.Graph.meaning c.is_descending.new.graph) c.args.found.now.nodes)
    c.is_descending.ensures.same_graph c.in_ok-is_descending.ensures.states
    c.search_components.ensures.verdict
