use Rattle.std.proofs.Common.{◌≡◌, ◌+◌, ℕ, ◌<◌, ◌≤◌, length, take}
use Rattle.std.specs.Prelude.{Some}
use Rattle.graph_search.specs.Trees.{IsFound, state_at}
use Rattle.graph_search.specs.Walks.{after, IsWalk}
use Rattle.graph_loops.specs.Loops.{AreMeant}
use Rattle.graph_loops.proofs.labels.walk_end.Given as goal

abbrev pub invariant-loop-label : goal.invariant-loop-label
invariant-loop-label g l = record {
  same_graph : g.G.Graph.next l.graph ≡ g.G.Graph.next l.fn.graph;
  same_labels : g.G.Graph.label_count l.graph ≡ g.G.Graph.label_count l.fn.graph;
  same_width : g.G.Graph.width l.graph ≡ g.G.Graph.width l.fn.graph;
  states : state_at (g.G.Graph.meaning l.graph) l.found.nodes ≡ state_at (g.G.Graph.meaning l.fn.graph) l.found.nodes;
  meant : AreMeant (state_at (g.G.Graph.meaning l.graph) l.found.nodes) (length l.found.nodes);
  room : length l.rows ≡ g.G.Graph.width l.graph + g.G.Graph.width l.graph;
  there : l.here < length l.found.nodes;
  walk : (s : g.G.Graph.State) → state_at (g.G.Graph.meaning l.fn.graph) l.found.nodes l.node ≡ Some s →
      after (g.G.Graph.next l.fn.graph) s (take l.label-index l.labels)
      ≡ state_at (g.G.Graph.meaning l.fn.graph) l.found.nodes l.here;
  way : (s : g.G.Graph.State) → state_at (g.G.Graph.meaning l.fn.graph) l.found.nodes l.node ≡ Some s →
      (n : ℕ) (t : g.G.Graph.State) → n ≤ l.label-index → IsWalk (g.G.Graph.next l.fn.graph) s (take n l.labels) t →
      IsFound (state_at (g.G.Graph.meaning l.fn.graph) l.found.nodes) t;
}
