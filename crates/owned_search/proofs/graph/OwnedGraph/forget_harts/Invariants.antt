-- the row is that of the state whose first harts have forgotten
use Rattle.std.proofs.Common.{◌≡◌, ◌-◌}
use Rattle.std.specs.Prelude.{Some}
use Rattle.cheri_model.specs.runs.Machine.{MachineState}
use Rattle.owned_search.specs.Graphs.{Remembers, state_in}
use Rattle.owned_search.proofs.RowLemmas.{forgotten_to}
use Rattle.owned_search.proofs.graph.OwnedGraph.forget_harts.Given as goal

abbrev pub invariant-loop-place : goal.invariant-loop-place
invariant-loop-place l = record {
  remembers : Remembers l.fn.self l.self;
  forgotten : (s : MachineState) → state_in l.fn.self l.fn.row ≡ Some s →
      state_in l.self l.row ≡ Some (forgotten_to l.fn.self.live (l.place - 1) s);
}
