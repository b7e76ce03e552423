-- none so far passes
use Rattle.std.proofs.Common.{◌≡◌, ◌<◌, ℕ}
use Rattle.std.specs.Prelude.{Some, false}
use Rattle.cheri_model.specs.runs.Machine.{MachineState}
use Rattle.states.specs.Kept.{at}
use Rattle.explore_verdicts.proofs.deciding.first_passing.Given as goal

abbrev pub invariant-loop-number : goal.invariant-loop-number
invariant-loop-number g l =
    (i : ℕ) (s : MachineState) → i < l.number → at l.kept i ≡ Some s → g.T.StateTest.passing l.test s ≡ false
