use Rattle.std.proofs.Common.{ap, ◌∙◌}
use Rattle.cap_model.specs.values.CapValue.{value_at}
use Rattle.cap_model.specs.results.EditedWords.{word_of_halves}
use Rattle.cap_ops.specs.Tagged.{value_from}
use Rattle.cap_ops.proofs.Encodings.{counted_tag}
use Rattle.cap_ops.proofs.cap.Cap.from_tagged.Goals as goal

pub from_halves-requires : goal.from_halves-requires
from_halves-requires c =
    counted_tag c.args.upper c.args.addr c.ranges.upper.fits c.ranges.addr.fits c.args.tag _ c.tag_counts.ensures

pub returns : goal.returns
unfolding value_from
returns c = c.from_halves.ensures ∙ ap (λ t. value_at t (word_of_halves c.args.upper c.args.addr)) c.tag_counts.ensures
