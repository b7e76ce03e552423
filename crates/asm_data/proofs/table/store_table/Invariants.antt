use Rattle.std.proofs.Common.{◌≡◌, drop}
use Rattle.asm_late.specs.Late.{late_parts}
use Rattle.asm_files.specs.Steps.{each_from}
use Rattle.asm_data.specs.Table.{entry_stored}
use Rattle.asm_data.proofs.table.store_table.Given as goal

-- the entries so far, and then the others
abbrev pub invariant-loop-entry : goal.invariant-loop-entry
invariant-loop-entry l =
    each_from (entry_stored (late_parts l.late)) l.entry (drop l.entry l.table) l.ram
    ≡ each_from (entry_stored (late_parts l.late)) 0 l.table l.initial.ram
