-- the edges of the labels so far pass
use Rattle.std.proofs.Common.{◌≡◌}
use Rattle.std.specs.Prelude.{Some}
use Rattle.cheri_model.specs.runs.Machine.{MachineState}
use Rattle.granule_states.specs.Graphs.{Learns, state_in}
use Rattle.granule_states.proofs.ScanLemmas.{PassedTo}
use Rattle.granule_states.proofs.graph.GranuleGraph.node_respects.Given as goal

abbrev pub invariant-loop-label : goal.invariant-loop-label
invariant-loop-label l = record {
  learns : Learns l.fn.self l.self;
  passed : (s : MachineState) → state_in l.fn.self l.node ≡ Some s → PassedTo l.fn.self l.owners s l.label;
}
