use Rattle.std.proofs.Common.{arith}
use Rattle.std.proofs.lemmas.Grind.{common_steps}
use Rattle.cap_ops.proofs.cap.Cap.unsealed_perms.Goals as goal

pub returns-then-has_permission-clause-value : goal.returns-then-has_permission-clause-value
returns-then-has_permission-clause-value c = grind (arith, common_steps)
