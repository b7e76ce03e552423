use Rattle.std.proofs.Common.{◌≡◌, drop}
use Rattle.cheri_model.specs.instructions.Tables.{rows_of}
use Rattle.asm_names.specs.Sections.{under_at}
use Rattle.asm_names.proofs.sections.under_at.Given as goal

abbrev pub invariant-loop-stem : goal.invariant-loop-stem
invariant-loop-stem g l = under_at (rows_of (drop l.stem-index l.table)) l.name ≡ under_at (rows_of l.table) l.name
