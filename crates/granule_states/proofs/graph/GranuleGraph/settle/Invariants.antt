-- so many quiet steps were taken
use Rattle.std.proofs.Common.{◌≡◌}
use Rattle.std.specs.Prelude.{Some}
use Rattle.cheri_model.specs.runs.Machine.{MachineState}
use Rattle.explore_turns.specs.declared.quiet.TheConstants.{MAX_QUIET_STEPS}
use Rattle.granule_states.specs.Graphs.{Learns, quiet_in, state_in, step_in}
use Rattle.granule_states.proofs.AlongLemmas.{IsAlong}
use Rattle.granule_states.proofs.graph.GranuleGraph.settle.Given as goal

abbrev pub invariant-loop-count : goal.invariant-loop-count
invariant-loop-count l = record {
  learns : Learns l.fn.self l.self;
  along : (s : MachineState) → state_in l.fn.self l.fn.row ≡ Some s →
      (t : MachineState) × (state_in l.self l.row ≡ Some t)
      × IsAlong (step_in l.fn.self) (quiet_in l.fn.self) l.hart MAX_QUIET_STEPS s l.count t;
}
