use Rattle.std.proofs.Common.{arith}
use Rattle.std.proofs.lemmas.Grind.{common_steps}
use Rattle.cap_ops.proofs.cap.Cap.perm.Goals as goal

pub returns-clause-value : goal.returns-clause-value
returns-clause-value c = grind (arith, common_steps)

pub returns-clause-known : goal.returns-clause-known
returns-clause-known c = grind (arith, common_steps)
