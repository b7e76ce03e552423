-- the row is that of the state whose first harts are swept
use Rattle.std.proofs.Common.{◌≡◌, ◌-◌}
use Rattle.std.specs.Prelude.{Some}
use Rattle.cheri_model.specs.runs.Machine.{MachineState}
use Rattle.states.specs.Graphs.{Continues, state_in}
use Rattle.states.proofs.EdgeLemmas.{swept_to}
use Rattle.states.proofs.graph.MachineGraph.sweep.Given as goal

abbrev pub invariant-loop-place : goal.invariant-loop-place
invariant-loop-place l = record {
  continues : Continues l.fn.self l.self;
  swept : (s : MachineState) → state_in l.fn.self l.node ≡ Some s →
      state_in l.self l.to ≡ Some (swept_to l.fn.self l.range (l.place - 1) s);
}
