-- the row so far is that of the memory and of the harts so far
use Rattle.std.proofs.Common.{◌≡◌, take, map}
use Rattle.std.specs.Prelude.{Some}
use Rattle.state_store.specs.Stores.{state_of}
use Rattle.states.specs.Graphs.{Continues, rests_in}
use Rattle.states.proofs.graph.MachineGraph.node.Given as goal

abbrev pub invariant-loop-hart : goal.invariant-loop-hart
invariant-loop-hart l = record {
  continues : Continues l.fn.self l.self;
  row : state_of l.self.store l.node.items ≡ Some (record { harts = map (rests_in l.fn.self) (take l.hart-index l.harts); memory = l.ram });
}
