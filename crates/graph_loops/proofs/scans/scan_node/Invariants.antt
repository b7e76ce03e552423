use Rattle.std.proofs.Common.{◌≡◌, ◌+◌, ◌≤◌, length}
use Rattle.graph_search.specs.Trees.{state_at}
use Rattle.graph_loops.specs.Scans.{IsScanning}
use Rattle.graph_loops.proofs.scans.scan_node.Given as goal

abbrev pub invariant-loop-label : goal.invariant-loop-label
invariant-loop-label g l = record {
  same_graph : g.G.Graph.next l.graph ≡ g.G.Graph.next l.fn.graph;
  same_labels : g.G.Graph.label_count l.graph ≡ g.G.Graph.label_count l.fn.graph;
  same_width : g.G.Graph.width l.graph ≡ g.G.Graph.width l.fn.graph;
  room : length l.rows ≡ g.G.Graph.width l.graph + g.G.Graph.width l.graph;
  labelled : l.actors ≤ g.G.Graph.label_count l.graph;
  ending : l.label-end ≡ g.G.Graph.label_count l.graph;
  states : state_at (g.G.Graph.meaning l.graph) l.found.nodes ≡ state_at (g.G.Graph.meaning l.fn.graph) l.found.nodes;
  before : IsScanning (g.G.Graph.next l.graph) (g.G.Graph.meaning l.graph) l.actors l.found.nodes l.numbers
      l.tables.moves.items l.tables.runs.items l.node l.label;
}
