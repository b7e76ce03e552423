use Rattle.std.proofs.Common.{◌≡◌, ◌+◌, ◌++◌, drop, length}
use Rattle.grammar.specs.Lines.{lines_of}
use Rattle.listings.specs.LineNumbers.{instruction_lines_from, instruction_lines_of}
use Rattle.listings.proofs.line_numbers.instruction_lines.Given as goal

-- the numbers so far and those of the lines from here on are those of all lines
abbrev pub invariant-loop-line : goal.invariant-loop-line
invariant-loop-line l =
    (l.number ≡ length l.yielded + 1)
    × (l.lines.items ++ instruction_lines_from l.number (drop (length l.yielded) (lines_of l.text)) ≡ instruction_lines_of l.text)
