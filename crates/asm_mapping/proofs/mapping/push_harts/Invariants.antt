-- the lines so far, and then those of the harts that are left
use Rattle.std.proofs.Common.{◌≡◌, ◌++◌, drop, map}
use Rattle.asm_starts.specs.Starts.{note_parts}
use Rattle.asm_mapping.specs.Lines.{line_parts, each_line}
use Rattle.asm_mapping.specs.Mapping.{hart_lines}
use Rattle.asm_mapping.proofs.mapping.push_harts.Given as goal

abbrev pub invariant-loop-number : goal.invariant-loop-number
invariant-loop-number l =
    map line_parts l.lines.items ++ each_line hart_lines l.number (map note_parts (drop l.number l.harts))
    ≡ map line_parts l.initial.lines.items ++ each_line hart_lines 0 (map note_parts l.harts)
