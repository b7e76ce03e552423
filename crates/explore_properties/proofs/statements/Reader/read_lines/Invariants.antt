-- the lines from here on make of what was read what all lines make from the beginning
use Rattle.std.proofs.Common.{◌≡◌, ◌+◌, drop, length}
use Rattle.grammar.specs.Lines.{lines_of}
use Rattle.listing_maps.specs.Names.{names_of}
use Rattle.explore_properties.specs.Properties.{none_yet}
use Rattle.explore_properties.specs.Reading.{lines_read}
use Rattle.explore_properties.proofs.statements.Reader.read_lines.Given as goal

abbrev pub invariant-loop-bytes : goal.invariant-loop-bytes
invariant-loop-bytes l =
    (l.line ≡ length l.yielded + 1)
    × (lines_read (names_of l.self.names.now) l.self.image.now l.line l.read (drop (length l.yielded) (lines_of l.text))
    ≡ lines_read (names_of l.self.names.now) l.self.image.now 1 none_yet (lines_of l.text))
