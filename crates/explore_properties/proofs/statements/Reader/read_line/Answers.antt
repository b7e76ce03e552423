use Rattle.explore_properties.specs.Lines.{text_length}
use Rattle.explore_properties.proofs.AsciiLemmas.{plain_ascii}
use Rattle.explore_properties.proofs.statements.Reader.read_line.Goals as goal
use Rattle.std.proofs.lemmas.Str.{IsAscii-take}

pub read_trimmed-requires : goal.read_trimmed-requires
read_trimmed-requires c = record {
  ascii = rw c.trimmed.ensures (IsAscii-take c.args.line.now (text_length c.args.line.now) (plain_ascii c.args.line.now c.requires.plain));
}
