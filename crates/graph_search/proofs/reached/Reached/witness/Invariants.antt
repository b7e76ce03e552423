use Rattle.std.proofs.Common.{◌<◌, ◌++◌, length, ℕ, List}
use Rattle.graph_search.specs.Trees.{IsTrace, edge_at}
use Rattle.graph_search.proofs.reached.Reached.witness.Given as goal

abbrev pub invariant-loop-node : goal.invariant-loop-node
invariant-loop-node l = record {
  below : l.node < length l.self-inside.tree.nodes.rows;
  trace : (ls : List ℕ) → IsTrace (edge_at l.self-inside.tree.edges.items) l.node ls →
      IsTrace (edge_at l.self-inside.tree.edges.items) l.number (l.labels.items ++ ls);
}

abbrev pub decreases-loop-node : goal.decreases-loop-node
decreases-loop-node l = l.node
