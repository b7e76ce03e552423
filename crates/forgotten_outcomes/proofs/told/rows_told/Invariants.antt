-- the rows so far are told
use Rattle.std.proofs.Common.{take}
use Rattle.forgotten_outcomes.specs.ShownStates.{AreRowsTold}
use Rattle.forgotten_outcomes.proofs.told.rows_told.Given as goal

abbrev pub invariant-loop-row : goal.invariant-loop-row
invariant-loop-row l = AreRowsTold l.survey l.shown (take l.row-index l.rows) l.told.items
