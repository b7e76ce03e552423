use Rattle.std.proofs.Common.{◌≡◌, length}
use Rattle.graph_nodes.specs.Parted.{nodes_in, IsParted, IsSentTo}
use Rattle.graph_nodes.specs.Sending.{ArePairs, IsTarget}
use Rattle.graph_nodes.specs.Joined.{targets_of}
use Rattle.graph_nodes.proofs.parted.Parted.send.Given as goal

-- the first targets were sent
abbrev pub invariant-loop-k : goal.invariant-loop-k
invariant-loop-k l = record {
  ending : l.k-end ≡ length l.leads;
  wide : l.width ≡ l.fn.self.width;
  same_width : l.self.width ≡ l.fn.self.width;
  whole : IsParted l.self;
  same_nodes : nodes_in l.self ≡ nodes_in l.fn.self;
  sent : ArePairs (IsTarget (IsSentTo l.self.tasks.items)) l.sent.items (targets_of l.width l.leads l.rows l.k);
}
