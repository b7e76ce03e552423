-- the outcomes below a number were gathered
use Rattle.outcomes.specs.Outcomes.{AreOutcomesBelow}
use Rattle.outcomes.proofs.finals.outcomes_of.Given as goal

abbrev pub invariant-loop-number : goal.invariant-loop-number
invariant-loop-number g l = AreOutcomesBelow (g.S.NumberedStates.at l.states) l.number l.numbers.items
