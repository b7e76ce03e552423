use Rattle.std.proofs.Common.{◌≡◌, ◌≤◌, ◌-◌, ◌*◌, length}
use Rattle.graph_search.specs.Trees.{state_at}
use Rattle.graph_search.specs.Searches.{IsSearching}
use Rattle.graph_search.proofs.search.expand_all.Given as goal

abbrev pub invariant-loop-place : goal.invariant-loop-place
invariant-loop-place g l = record {
  same_graph : g.G.Graph.next l.graph ≡ g.G.Graph.next l.fn.graph;
  same_labels : g.G.Graph.label_count l.graph ≡ g.G.Graph.label_count l.fn.graph;
  same_width : g.G.Graph.width l.graph ≡ g.G.Graph.width l.fn.graph;
  same_rows : l.tree.nodes.width ≡ l.fn.tree.nodes.width;
  node : length l.ahead.node.items ≡ g.G.Graph.width l.graph;
  room : length l.ahead.rows.items ≡ g.G.Graph.label_count l.graph * g.G.Graph.width l.graph;
  wide : l.tree.nodes.width ≡ g.G.Graph.width l.graph;
  there : l.place.from ≤ length l.tree.nodes.rows;
  first : state_at (g.G.Graph.meaning l.graph) l.tree.nodes.rows 0
      ≡ state_at (g.G.Graph.meaning l.fn.graph) l.fn.tree.nodes.rows 0;
  few : length l.tree.nodes.rows ≤ l.limit;
  before : IsSearching (g.G.Graph.next l.graph) (g.G.Graph.meaning l.graph) l.limit
      l.tree.nodes.rows l.tree.edges.items l.place.from l.place.label;
}

abbrev pub decreases-loop-place : goal.decreases-loop-place
decreases-loop-place g l = l.limit - l.place.from
