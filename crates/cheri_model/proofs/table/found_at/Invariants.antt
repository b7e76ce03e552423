use Rattle.std.proofs.Common.{◌≡◌, drop}
use Rattle.cheri_model.specs.instructions.Tables.{found_at, rows_of}
use Rattle.cheri_model.proofs.table.found_at.Given as goal

abbrev pub invariant-loop-name : goal.invariant-loop-name
invariant-loop-name g l = found_at (rows_of (drop l.name-index l.table)) l.token ≡ found_at (rows_of l.table) l.token
