use Rattle.std.proofs.Common.{ℕ, length, subst}
use Rattle.std.specs.Prelude.{Option}
use Rattle.graph_search.specs.Trees.{state_at}
use Rattle.graph_loops.specs.Loops.{IsKnown}
use Rattle.graph_loops.specs.declared.scans.Loops.{Loops}
use Rattle.graph_loops.proofs.LabelLemmas.{of_some}
use Rattle.loop_search.specs.Verdicts.{IsFoundLoop}
use Rattle.loop_search.proofs.VerdictLemmas.{on_same}
use Rattle.loop_search.proofs.judging.judge_components.Goals as goal

pub returns-in-Some-clause-verdict : goal.returns-in-Some-clause-verdict
returns-in-Some-clause-verdict g c = (
  c.requires.complete,
  subst (IsKnown (g.G.Graph.next c.args.graph.now) c.args.actors
      (state_at (g.G.Graph.meaning c.args.graph.now) c.args.found.now.nodes)) c.in-Unfair.is
      c.in_ok-judge_numbers.ensures.known,
  on_same (λ (next : g.G.Graph.State → ℕ → Option g.G.Graph.State) (at : ℕ → Option g.G.Graph.State).
      IsFoundLoop next c.args.actors at c.in-Some.unfair)
      (g.G.Graph.next c.args.graph.now) (g.G.Graph.next c.judge_numbers.new.graph)
      (state_at (g.G.Graph.meaning c.args.graph.now) c.args.found.now.nodes)
      (state_at (g.G.Graph.meaning c.judge_numbers.new.graph) c.args.found.now.nodes)
      c.judge_numbers.ensures.same_graph c.in_ok-judge_numbers.ensures.states
      (of_some (IsFoundLoop (g.G.Graph.next c.judge_numbers.new.graph) c.args.actors
      (state_at (g.G.Graph.meaning c.judge_numbers.new.graph) c.args.found.now.nodes))
      c.in_ok-unfair-in-Unfair.field-0 c.in-Some.unfair c.in-Some.is c.in_ok-unfair-in-Unfair.ensures.found),
)
