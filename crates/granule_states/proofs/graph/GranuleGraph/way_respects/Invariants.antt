-- what is left of the way decides
use Rattle.std.proofs.Common.{◌≡◌}
use Rattle.std.specs.Prelude.{Some}
use Rattle.cheri_model.specs.runs.Machine.{MachineState}
use Rattle.explore_turns.specs.declared.quiet.TheConstants.{MAX_QUIET_STEPS}
use Rattle.granule_states.specs.Graphs.{Learns, quiet_in, state_in, step_in}
use Rattle.granule_states.specs.Owners.{passes_in}
use Rattle.granule_states.proofs.PassLemmas.{Left}
use Rattle.granule_states.proofs.graph.GranuleGraph.way_respects.Given as goal

abbrev pub invariant-loop : goal.invariant-loop
invariant-loop l = record {
  learns : Learns l.fn.self l.self;
  left : (s : MachineState) → state_in l.fn.self l.fn.row ≡ Some s →
      (t : MachineState) × (state_in l.self l.row ≡ Some t)
      × Left (step_in l.fn.self) (quiet_in l.fn.self) (passes_in l.fn.self l.owners) l.hart MAX_QUIET_STEPS s l.counter t;
}
