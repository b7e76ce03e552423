use Rattle.std.proofs.Common.{arith}
use Rattle.std.proofs.lemmas.Grind.{common_steps}
use Rattle.cap_model.specs.results.Readings.{offset_of}
use Rattle.cap_ops.proofs.cap.Cap.offset.Goals as goal

pub returns : goal.returns
unfolding offset_of
returns c = grind (arith, common_steps)
