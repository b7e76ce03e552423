use Rattle.std.proofs.Common.{◌≡◌, ◌+◌, drop, length}
use Rattle.grammar.specs.Lines.{lines_of}
use Rattle.asm_map_reader.specs.Drafts.{draft_parts}
use Rattle.asm_map_reader.specs.Reading.{lines_meaning, map_meaning}
use Rattle.asm_map_reader.proofs.reader.read_map.Given as goal

-- the lines from here on make of the draft what all lines make from the beginning
abbrev pub invariant-loop-line : goal.invariant-loop-line
invariant-loop-line l =
    (l.number ≡ length l.yielded + 1)
    × (lines_meaning l.counts l.number (draft_parts l.draft) (drop (length l.yielded) (lines_of l.text)) ≡ map_meaning l.counts l.text)
