-- the lines so far, and then those of the files that are left
use Rattle.std.proofs.Common.{◌≡◌, ◌+◌, ◌++◌, drop, map}
use Rattle.asm_mapping.specs.Lines.{line_parts, text_now, each_line}
use Rattle.asm_mapping.specs.Mapping.{file_lines}
use Rattle.asm_mapping.proofs.mapping.push_files.Given as goal

abbrev pub invariant-loop-place : goal.invariant-loop-place
invariant-loop-place l =
    map line_parts l.lines.items ++ each_line file_lines (l.place + 1) (map text_now (drop l.place l.names))
    ≡ map line_parts l.initial.lines.items ++ each_line file_lines 1 (map text_now l.names)
