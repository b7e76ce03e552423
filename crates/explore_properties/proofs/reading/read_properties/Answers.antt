use Rattle.explore_properties.proofs.ReadingLemmas.{good_lines}
use Rattle.explore_properties.proofs.reading.read_properties.Goals as goal

pub read_lines-requires : goal.read_lines-requires
read_lines-requires c = record { plain = good_lines c.args.text.now c.args.image.now c.requires }
