-- nothing else changes
use Rattle.std.proofs.Common.{◌≡◌}
use Rattle.granule_states.proofs.graph.GranuleGraph.note_node.Given as goal

abbrev pub invariant-loop-hart : goal.invariant-loop-hart
invariant-loop-hart l = l.self ≡ l.fn.self
