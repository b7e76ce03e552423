use Rattle.std.proofs.Common.{◌≡◌, ◌≤◌, ◌-◌, ◌*◌, length}
use Rattle.graph_search.specs.Trees.{state_at}
use Rattle.graph_search.specs.Rounds.{Stands}
use Rattle.graph_search.proofs.by_rounds.search_rounds.Given as goal

abbrev pub invariant-loop-now : goal.invariant-loop-now
invariant-loop-now g l = record {
  same_graph : g.G.Graph.next l.graph ≡ g.G.Graph.next l.fn.graph;
  same_labels : g.G.Graph.label_count l.graph ≡ g.G.Graph.label_count l.fn.graph;
  same_width : g.G.Graph.width l.graph ≡ g.G.Graph.width l.fn.graph;
  same_rows : l.tree.nodes.width ≡ l.fn.tree.nodes.width;
  wide : l.tree.nodes.width ≡ g.G.Graph.width l.graph;
  labels : l.labels ≡ g.G.Graph.label_count l.graph;
  long : length l.next.nodes.items ≡ 32768 * g.G.Graph.width l.graph;
  rows : length l.next.rows.items ≡ 32768 * g.G.Graph.label_count l.graph * g.G.Graph.width l.graph;
  first : state_at (g.G.Graph.meaning l.graph) l.tree.nodes.rows 0
      ≡ state_at (g.G.Graph.meaning l.fn.graph) l.fn.tree.nodes.rows 0;
  onward : l.node ≤ l.now.first;
  stands : Stands (g.G.Graph.next l.graph) (g.G.Graph.meaning l.graph) l.limit (g.G.Graph.width l.graph)
      (g.G.Graph.label_count l.graph) l.tree.nodes.rows l.tree.edges.items l.now;
}

abbrev pub decreases-loop-now : goal.decreases-loop-now
decreases-loop-now g l = l.limit - l.now.first
