use Rattle.std.proofs.Common.{arith}
use Rattle.std.proofs.lemmas.Grind.{common_steps}
use Rattle.hart_step.proofs.execute.loaded.Goals as goal

pub returns-then-signed : goal.returns-then-signed
returns-then-signed c = grind (arith, common_steps)

pub returns-else-signed : goal.returns-else-signed
returns-else-signed c = grind (arith, common_steps)
