use Rattle.std.proofs.Common.{◌∙◌}
use Rattle.cap_ops.proofs.Encodings.{tag_counts}
use Rattle.cheri_vectors.proofs.words.is_capability.Goals as goal

pub returns : goal.returns
returns c = rw c.from_tagged.ensures at c.tag.ensures.value ∙ tag_counts _
