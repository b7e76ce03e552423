use Rattle.std.proofs.Common.{arith}
use Rattle.std.proofs.lemmas.Grind.{common_steps}
use Rattle.cap_model.specs.results.Addresses.{length_of}
use Rattle.cap_ops.proofs.cap.Cap.len.Goals as goal

pub returns : goal.returns
unfolding length_of
returns c = grind (arith, common_steps)
