-- the rows so far are told
use Rattle.std.proofs.Common.{take}
use Rattle.outcome_texts.specs.Told.{AreRowsTold}
use Rattle.outcome_texts.proofs.told.rows_told.Given as goal

abbrev pub invariant-loop-row : goal.invariant-loop-row
invariant-loop-row l = AreRowsTold l.kept l.shown (take l.row-index l.rows) l.told.items
