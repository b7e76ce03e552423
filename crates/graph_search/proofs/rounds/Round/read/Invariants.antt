use Rattle.std.proofs.Common.{◌≡◌, [], length}
use Rattle.graph_search.specs.Rounds.{AreRead}
use Rattle.graph_search.proofs.rounds.Round.read.Given as goal

abbrev pub invariant-loop-place : goal.invariant-loop-place
invariant-loop-place l = record {
  first : l.self.first ≡ l.first;
  count : l.self.count ≡ l.count;
  no_steps : l.self.leads.items ≡ [];
  same_nodes : length l.self.nodes.items ≡ length l.fn.self.nodes.items;
  same_rows : l.self.rows.items ≡ l.fn.self.rows.items;
  read : AreRead l.nodes.width l.nodes.rows l.first l.place l.self.nodes.items;
}
