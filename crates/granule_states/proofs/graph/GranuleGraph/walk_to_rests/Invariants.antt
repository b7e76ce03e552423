-- the first harts are at their rest, and their quiet steps were appended
use Rattle.std.proofs.Common.{◌≡◌, ◌++◌}
use Rattle.std.specs.Prelude.{Some}
use Rattle.cheri_model.specs.runs.Machine.{MachineState}
use Rattle.explore_turns.specs.declared.quiet.TheConstants.{MAX_QUIET_STEPS}
use Rattle.granule_states.specs.Graphs.{Learns, quiet_in, state_in, step_in}
use Rattle.granule_states.specs.Orders.{steps_of, ways_in}
use Rattle.own_granules.specs.Rests.{rest_first}
use Rattle.granule_states.proofs.graph.GranuleGraph.walk_to_rests.Given as goal

abbrev pub invariant-loop-hart : goal.invariant-loop-hart
invariant-loop-hart l = record {
  learns : Learns l.fn.self l.self;
  rests : (s : MachineState) → state_in l.fn.self l.fn.row ≡ Some s → state_in l.self l.row
      ≡ Some (rest_first (step_in l.fn.self) (quiet_in l.fn.self) MAX_QUIET_STEPS l.hart s);
  steps : (s : MachineState) → state_in l.fn.self l.fn.row ≡ Some s →
      l.order.items ≡ l.fn.order.items ++ steps_of (ways_in l.fn.self l.hart s);
}
