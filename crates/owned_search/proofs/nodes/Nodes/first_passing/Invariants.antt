-- none so far passes
use Rattle.owned_search.specs.Nodes.{NonePassesBefore, at}
use Rattle.owned_search.proofs.nodes.Nodes.first_passing.Given as goal

abbrev pub invariant-loop-number : goal.invariant-loop-number
invariant-loop-number g l = NonePassesBefore (at l.self.graph l.self.reached) (g.T.StateTest.passing l.test) l.number
