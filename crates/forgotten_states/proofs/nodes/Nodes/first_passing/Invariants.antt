-- none so far passes
use Rattle.forgotten_states.specs.Nodes.{NonePassesBefore, at}
use Rattle.forgotten_states.proofs.nodes.Nodes.first_passing.Given as goal

abbrev pub invariant-loop-number : goal.invariant-loop-number
invariant-loop-number g l = NonePassesBefore (at l.self.graph l.self.reached) (g.T.StateTest.passing l.test) l.number
