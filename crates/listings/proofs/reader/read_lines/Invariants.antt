use Rattle.std.proofs.Common.{◌≡◌, ◌+◌, drop, length}
use Rattle.grammar.specs.Lines.{lines_of}
use Rattle.grammar.specs.LabelMap.{label_parts}
use Rattle.listings.specs.Draft.{empty_draft}
use Rattle.listings.specs.Meaning.{lines_meaning}
use Rattle.listings.proofs.reader.read_lines.Given as goal

-- the lines from here on make of the draft what all lines make from the beginning
abbrev pub invariant-loop-line : goal.invariant-loop-line
invariant-loop-line l =
    (l.number ≡ length l.yielded + 1)
    × (lines_meaning (label_parts l.labels) l.number l.draft (drop (length l.yielded) (lines_of l.text))
    ≡ lines_meaning (label_parts l.labels) 1 empty_draft (lines_of l.text))
