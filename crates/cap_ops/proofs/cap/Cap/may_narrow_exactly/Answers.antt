use Rattle.std.proofs.Common.{arith}
use Rattle.std.proofs.lemmas.Grind.{common_steps}
use Rattle.cap_ops.proofs.cap.Cap.may_narrow_exactly.Goals as goal

pub returns-else-exact-clause-value : goal.returns-else-exact-clause-value
returns-else-exact-clause-value c = grind (arith, common_steps)
