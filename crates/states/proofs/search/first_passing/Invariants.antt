-- none so far passes
use Rattle.states.specs.Kept.{NonePassesBefore}
use Rattle.states.proofs.search.first_passing.Given as goal

abbrev pub invariant-loop-number : goal.invariant-loop-number
invariant-loop-number g l = NonePassesBefore l.kept (g.T.StateTest.passing l.test) l.number
