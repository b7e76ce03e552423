use Rattle.std.proofs.Common.{◌≡◌, drop, map}
use Rattle.asm_late.specs.Late.{late_parts}
use Rattle.asm_files.specs.Programs.{file_parts}
use Rattle.asm_code.specs.Beginning.{file_marked, steps_from}
use Rattle.asm_code.proofs.beginning.mark_all.Given as goal

-- the files so far, and then the others
abbrev pub invariant-loop-number : goal.invariant-loop-number
invariant-loop-number l =
    steps_from (file_marked (late_parts l.late)) l.number (map file_parts (drop l.number l.files)) l.marks
    ≡ steps_from (file_marked (late_parts l.late)) 0 (map file_parts l.files) l.initial.marks
