-- the nodes so far, and the first of them that passes
use Rattle.std.proofs.Common.{◌<◌, ◌≤◌, ◌-◌, length}
use Rattle.owned_search.specs.Graphs.{IsGraphOf}
use Rattle.owned_search.specs.Nodes.{AreNodes, IsFirstPassing, at}
use Rattle.owned_search.proofs.seeking.first_of.Given as goal

abbrev pub invariant-loop-nodes : goal.invariant-loop-nodes
invariant-loop-nodes g l = record {
  nodes : AreNodes l.nodes.graph l.nodes.reached l.nodes.limit;
  of : IsGraphOf l.turns.image.now l.turns.sees.now l.turns.live.now l.turns.shared.now l.nodes.graph;
  some : 0 < l.nodes.limit;
  within : l.nodes.limit ≤ l.limit;
  first : IsFirstPassing (at l.nodes.graph l.nodes.reached) (length l.nodes.reached.nodes) (g.T.StateTest.passing l.test) l.number;
}

abbrev pub decreases-loop-nodes : goal.decreases-loop-nodes
decreases-loop-nodes g l = l.limit - l.nodes.limit
