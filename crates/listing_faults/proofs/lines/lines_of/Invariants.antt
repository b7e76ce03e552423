-- the lines so far and those from here on are all lines
use Rattle.std.proofs.Common.{◌≡◌, ◌++◌, drop, length}
use Rattle.grammar.specs.Lines.{lines_of}
use Rattle.grammar.specs.Tokens.{texts}
use Rattle.listing_faults.proofs.lines.lines_of.Given as goal

abbrev pub invariant-loop-line : goal.invariant-loop-line
invariant-loop-line l = texts l.lines.items ++ drop (length l.yielded) (lines_of l.text) ≡ lines_of l.text
