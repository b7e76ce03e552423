use Rattle.std.proofs.Common.{◌≡◌, drop, map}
use Rattle.asm_late.specs.Late.{late_parts}
use Rattle.asm_files.specs.Programs.{file_parts}
use Rattle.asm_files.specs.Steps.{each_from}
use Rattle.asm_data.specs.Contents.{contents_parts, file_put}
use Rattle.asm_data.proofs.contents.Contents.put_files.Given as goal

-- those so far, and then the others
abbrev pub invariant-loop-number : goal.invariant-loop-number
invariant-loop-number l =
    each_from (file_put (late_parts l.late)) l.number (map file_parts (drop l.number l.files)) (contents_parts l.self)
    ≡ each_from (file_put (late_parts l.late)) 0 (map file_parts l.files) (contents_parts l.initial.self)
