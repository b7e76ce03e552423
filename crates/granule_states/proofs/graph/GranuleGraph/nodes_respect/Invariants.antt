-- the nodes so far pass
use Rattle.graph_search.specs.Trees.{state_at}
use Rattle.granule_states.specs.Graphs.{Learns, state_in}
use Rattle.granule_states.proofs.ScanLemmas.{PassedNodes}
use Rattle.granule_states.proofs.graph.GranuleGraph.nodes_respect.Given as goal

abbrev pub invariant-loop-number : goal.invariant-loop-number
invariant-loop-number l = record {
  learns : Learns l.fn.self l.self;
  passed : PassedNodes l.fn.self l.owners (state_at (state_in l.fn.self) l.reached.nodes) l.number;
}
