use Rattle.std.proofs.Common.{◌≡◌, drop, map}
use Rattle.asm_late.specs.Late.{late_parts}
use Rattle.asm_statements.specs.Statements.{statement_parts}
use Rattle.asm_files.specs.Steps.{each_from}
use Rattle.asm_data.specs.Contents.{contents_parts, statement_put}
use Rattle.asm_data.proofs.contents.Contents.put_file.Given as goal

-- those so far, and then the others
abbrev pub invariant-loop-number : goal.invariant-loop-number
invariant-loop-number l =
    each_from (statement_put (late_parts l.late) l.file) l.number (map statement_parts (drop l.number l.statements)) (contents_parts l.self)
    ≡ each_from (statement_put (late_parts l.late) l.file) 0 (map statement_parts l.statements) (contents_parts l.initial.self)
