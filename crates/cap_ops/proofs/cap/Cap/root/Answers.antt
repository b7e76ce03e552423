use Rattle.std.proofs.Common.{◌∙◌}
use Rattle.cap_ops.proofs.Makings.{root_result}
use Rattle.cap_ops.proofs.cap.Cap.root.Goals as goal

pub from_halves-requires : goal.from_halves-requires
from_halves-requires c = (root_result _ _ (rw c.known_bits.ensures.value at c.with_perms.ensures)).tagged

pub returns : goal.returns
returns c = c.from_halves.ensures ∙ (root_result _ _ (rw c.known_bits.ensures.value at c.with_perms.ensures)).same
