use Rattle.std.proofs.Common.{◌≡◌, ℕ, ◌+◌, ◌≤◌, List, drop, length}
use Rattle.grammar.specs.Lines.{lines_of}
use Rattle.cheri_model.specs.instructions.Tables.{found_at}
use Rattle.grammar.specs.Labels.{labels_from, label_in, instruction_lines}
use Rattle.grammar.specs.LabelMap.{named_in, first_line}
use Rattle.grammar.proofs.labels.labels_of.Given as goal

-- what the lines so far define, and then the lines from here on, is what all lines define; and likewise their count
abbrev pub invariant-loop-line : goal.invariant-loop-line
invariant-loop-line l =
    (l.number ≡ length l.yielded + 1) × (l.instructions ≤ length l.yielded)
    × (l.instructions + instruction_lines (drop (length l.yielded) (lines_of l.text)) ≡ instruction_lines (lines_of l.text))
    × ((name : List ℕ) → first_line (named_in l.labels name) (found_at (labels_from l.number l.instructions (drop (length l.yielded) (lines_of l.text))) name) ≡ label_in l.text name)
