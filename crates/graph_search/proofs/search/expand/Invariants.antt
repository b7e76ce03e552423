use Rattle.std.proofs.Common.{◌≡◌, ◌<◌, ◌≤◌, length}
use Rattle.std.specs.Prelude.{slice_get}
use Rattle.graph_search.specs.Trees.{state_at}
use Rattle.graph_search.specs.Searches.{IsSearching}
use Rattle.graph_search.proofs.search.expand.Given as goal

abbrev pub invariant-loop-label : goal.invariant-loop-label
invariant-loop-label g l = record {
  same_rows : l.tree.nodes.width ≡ l.fn.tree.nodes.width;
  ending : l.label-end ≡ g.G.Graph.label_count l.graph;
  here : slice_get l.tree.nodes.rows l.first.from ≡ slice_get l.fn.tree.nodes.rows l.first.from;
  grown : length l.fn.tree.nodes.rows ≤ length l.tree.nodes.rows;
  there : l.first.from < length l.tree.nodes.rows;
  first : state_at (g.G.Graph.meaning l.graph) l.tree.nodes.rows 0
      ≡ state_at (g.G.Graph.meaning l.fn.graph) l.fn.tree.nodes.rows 0;
  before : IsSearching (g.G.Graph.next l.graph) (g.G.Graph.meaning l.graph) l.limit
      l.tree.nodes.rows l.tree.edges.items l.first.from l.label;
}
