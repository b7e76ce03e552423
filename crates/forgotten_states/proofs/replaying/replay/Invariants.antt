-- the labels so far were told, and the rest begin at the state in the row
use Rattle.std.proofs.Common.{◌≡◌, ◌+◌, length}
use Rattle.std.specs.Prelude.{Some}
use Rattle.cheri_model.specs.runs.Machine.{MachineState}
use Rattle.forgotten_states.specs.Graphs.{Remembers, forgotten_in, state_in}
use Rattle.forgotten_states.proofs.ReplayLemmas.{IsTold}
use Rattle.forgotten_states.proofs.replaying.replay.Given as goal

abbrev pub invariant-loop-label : goal.invariant-loop-label
invariant-loop-label l = record {
  remembers : Remembers l.fn.graph l.graph;
  row : length l.row ≡ length l.fn.graph.graph.image.harts + 1;
  room : length l.to.items ≡ length l.fn.graph.graph.image.harts + 1;
  places : length l.places ≡ length l.fn.graph.graph.image.harts;
  told : (s : MachineState) → state_in l.fn.graph l.fn.row ≡ Some s →
      (t : MachineState) × (state_in l.graph l.row ≡ Some t)
      × IsTold (forgotten_in l.fn.graph) l.fn.graph.groups l.labels l.own.items l.places l.label-index l.fn.places s t;
}
