use Rattle.std.proofs.Common.{◌≡◌, ◌+◌, ℕ, ◌<◌, ◌≤◌, length}
use Rattle.graph_search.specs.Trees.{state_at}
use Rattle.graph_loops.specs.Loops.{AreMeant}
use Rattle.loop_search.proofs.rounds.shortest_loop.Given as goal

abbrev pub invariant-loop-number : goal.invariant-loop-number
invariant-loop-number g l = record {
  same_graph : g.G.Graph.next l.graph ≡ g.G.Graph.next l.fn.graph;
  same_labels : g.G.Graph.label_count l.graph ≡ g.G.Graph.label_count l.fn.graph;
  same_width : g.G.Graph.width l.graph ≡ g.G.Graph.width l.fn.graph;
  states : state_at (g.G.Graph.meaning l.graph) l.found.nodes ≡ state_at (g.G.Graph.meaning l.fn.graph) l.found.nodes;
  meant : AreMeant (state_at (g.G.Graph.meaning l.graph) l.found.nodes) (length l.found.nodes);
  room : length l.rows ≡ g.G.Graph.width l.graph + g.G.Graph.width l.graph;
}
