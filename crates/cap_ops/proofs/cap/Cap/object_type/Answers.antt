use Rattle.std.proofs.Common.{arith}
use Rattle.std.proofs.lemmas.Grind.{common_steps}
use Rattle.cap_model.specs.words.Fields.{word_otype}
use Rattle.cap_model.specs.values.Capability.{capability_at}
use Rattle.cap_ops.proofs.cap.Cap.object_type.Goals as goal

pub returns : goal.returns
unfolding capability_at word_otype
returns c = grind (arith, common_steps)
