use Rattle.std.proofs.Common.{◌≡◌, ℕ, ◌+◌, ◌-◌, ◌*◌, ◌<◌, ◌≤◌, List, length}
use Rattle.std.specs.Prelude.{Some}
use Rattle.graph_search.specs.Rounds.{AreRoundSteps, HasOneNode}
use Rattle.graph_search.proofs.rounds.Round.step.Given as goal

abbrev pub invariant-loop-place : goal.invariant-loop-place
invariant-loop-place g l = record {
  same_graph : g.G.Graph.next l.graph ≡ g.G.Graph.next l.fn.graph;
  same_labels : g.G.Graph.label_count l.graph ≡ g.G.Graph.label_count l.fn.graph;
  same_width : g.G.Graph.width l.graph ≡ g.G.Graph.width l.fn.graph;
  kept : (n : List ℕ) (s : g.G.Graph.State) → g.G.Graph.meaning l.fn.graph n ≡ Some s →
      g.G.Graph.meaning l.graph n ≡ Some s;
  one_node : HasOneNode (g.G.Graph.meaning l.fn.graph) → HasOneNode (g.G.Graph.meaning l.graph);
  one_then : 0 < length l.self.leads.items → HasOneNode (g.G.Graph.meaning l.graph);
  same_first : l.self.first ≡ l.fn.self.first;
  same_count : l.self.count ≡ l.fn.self.count;
  same_nodes : l.self.nodes.items ≡ l.fn.self.nodes.items;
  same_rows : length l.self.rows.items ≡ length l.fn.self.rows.items;
  place : l.place ≤ l.self.count;
  label : l.label < g.G.Graph.label_count l.fn.graph;
  count : length l.self.leads.items ≡ l.place * g.G.Graph.label_count l.fn.graph + l.label;
  ended : l.self.count ≤ l.place → l.label ≡ 0;
  steps : AreRoundSteps (g.G.Graph.next l.graph) (g.G.Graph.meaning l.fn.graph) (g.G.Graph.meaning l.graph) (g.G.Graph.width l.fn.graph)
      (g.G.Graph.label_count l.fn.graph) l.self.nodes.items l.self.leads.items l.self.rows.items;
}

abbrev pub decreases-loop-place : goal.decreases-loop-place
decreases-loop-place g l = l.self.count * g.G.Graph.label_count l.fn.graph - length l.self.leads.items
