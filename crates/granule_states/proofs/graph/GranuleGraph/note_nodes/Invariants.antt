-- nothing else changes
use Rattle.std.proofs.Common.{◌≡◌}
use Rattle.granule_states.proofs.graph.GranuleGraph.note_nodes.Given as goal

abbrev pub invariant-loop-number : goal.invariant-loop-number
invariant-loop-number l = l.self ≡ l.fn.self
