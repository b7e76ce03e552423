-- the lines so far, and then the others
use Rattle.std.proofs.Common.{◌≡◌, ◌++◌, drop, string_bytes}
use Rattle.asm_maps.specs.Maps.{lines_text}
use Rattle.asm_maps.proofs.writer.write_lines.Given as goal

abbrev pub invariant-loop-line : goal.invariant-loop-line
invariant-loop-line l =
    string_bytes l.out ++ lines_text (drop l.line-index l.lines) ≡ string_bytes l.initial.out ++ lines_text l.lines
