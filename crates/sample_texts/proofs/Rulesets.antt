-- Short names for `using(..)`.
use Rattle.sample_texts.proofs.Floats.{floatless}
use Rattle.report_lines.proofs.JsonLemmas.{image_no_float}
use Rattle.sample_texts.proofs.PropertyLemmas.{property_members, endings}

pub ruleset members = (floatless, image_no_float, property_members)

pub ruleset json = (floatless, endings)
