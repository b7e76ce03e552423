use Rattle.std.proofs.Common.{◌≡◌, length}
use Rattle.graph_nodes.specs.Joined.{targets_of, AreJoined}
use Rattle.graph_nodes.proofs.nodes.Nodes.join.Given as goal

-- the first targets were added
abbrev pub invariant-loop-k : goal.invariant-loop-k
invariant-loop-k l = record {
  ending : l.k-end ≡ length l.leads;
  wide : l.width ≡ l.fn.self.width;
  same_width : l.self.width ≡ l.fn.self.width;
  joined : AreJoined (targets_of l.width l.leads l.rows l.k) l.fresh.items l.fn.self.rows l.self.rows;
}
