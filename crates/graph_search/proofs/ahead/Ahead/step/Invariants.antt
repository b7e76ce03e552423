use Rattle.std.proofs.Common.{◌≡◌, ℕ, ◌+◌, ◌<◌, ◌≤◌, List, length}
use Rattle.std.specs.Prelude.{Some}
use Rattle.graph_search.specs.Searches.{AreSteps}
use Rattle.graph_search.proofs.ahead.Ahead.step.Given as goal

abbrev pub invariant-loop-label : goal.invariant-loop-label
invariant-loop-label g l = record {
  same_graph : g.G.Graph.next l.graph ≡ g.G.Graph.next l.fn.graph;
  same_labels : g.G.Graph.label_count l.graph ≡ g.G.Graph.label_count l.fn.graph;
  same_width : g.G.Graph.width l.graph ≡ g.G.Graph.width l.fn.graph;
  same_node : l.self.node.items ≡ l.fn.self.node.items;
  same_room : length l.self.rows.items ≡ length l.fn.self.rows.items;
  ending : l.label-end ≡ g.G.Graph.label_count l.graph;
  kept : (n : List ℕ) (s : g.G.Graph.State) → g.G.Graph.meaning l.fn.graph n ≡ Some s →
      g.G.Graph.meaning l.graph n ≡ Some s;
  one_node : l.first < l.label → (m n : List ℕ) (s : g.G.Graph.State) → g.G.Graph.meaning l.graph m ≡ Some s →
      g.G.Graph.meaning l.graph n ≡ Some s → m ≡ n;
  count : l.first + length l.self.leads.items ≡ l.label;
  few : length l.self.leads.items ≤ g.G.Graph.label_count l.fn.graph;
  steps : (s : g.G.Graph.State) → g.G.Graph.meaning l.fn.graph l.fn.self.node.items ≡ Some s →
      AreSteps (g.G.Graph.next l.graph) (g.G.Graph.meaning l.graph) (g.G.Graph.width l.fn.graph) s l.first
      l.self.leads.items l.self.rows.items;
}
