use Rattle.std.proofs.Common.{arith}
use Rattle.std.proofs.lemmas.Grind.{common_steps}
use Rattle.cap_model.specs.results.Addresses.{address_of, inc_offset}
use Rattle.cap_ops.proofs.cap.Cap.inc_offset.Goals as goal

pub returns : goal.returns
unfolding inc_offset address_of
returns c = grind (arith, common_steps)
