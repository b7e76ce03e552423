-- the outcomes so far are told
use Rattle.std.proofs.Common.{take}
use Rattle.outcome_texts.specs.Told.{AreOutcomesTold}
use Rattle.outcome_texts.proofs.told.outcomes_told.Given as goal

abbrev pub invariant-loop-state : goal.invariant-loop-state
invariant-loop-state l = AreOutcomesTold l.kept (take l.state-index l.numbers) l.told.items
