-- the turns so far were appended, and the rest begin at the state in the row
use Rattle.std.proofs.Common.{◌≡◌}
use Rattle.std.specs.Prelude.{Some}
use Rattle.cheri_model.specs.runs.Machine.{MachineState}
use Rattle.granule_states.specs.Graphs.{Learns, state_in}
use Rattle.granule_states.proofs.OrderLemmas.{IsWalked}
use Rattle.granule_states.proofs.graph.GranuleGraph.walk_turns.Given as goal

abbrev pub invariant-loop-hart : goal.invariant-loop-hart
invariant-loop-hart l = record {
  learns : Learns l.fn.self l.self;
  walked : (s : MachineState) → state_in l.fn.self l.fn.row ≡ Some s →
      (t : MachineState) × (state_in l.self l.row ≡ Some t)
      × IsWalked l.fn.self s l.harts l.hart-index l.fn.order.items l.order.items t;
}
