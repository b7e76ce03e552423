use Rattle.std.proofs.Common.{◌≡◌, drop, map}
use Rattle.asm_late.specs.Late.{late_parts}
use Rattle.asm_statements.specs.Statements.{statement_parts}
use Rattle.asm_code.specs.Beginning.{statement_marked, steps_from}
use Rattle.asm_code.proofs.beginning.mark_file.Given as goal

-- the statements so far, and then the others
abbrev pub invariant-loop-number : goal.invariant-loop-number
invariant-loop-number l =
    steps_from (statement_marked (late_parts l.late) l.file) l.number (map statement_parts (drop l.number l.statements)) l.marks
    ≡ steps_from (statement_marked (late_parts l.late) l.file) 0 (map statement_parts l.statements) l.initial.marks
