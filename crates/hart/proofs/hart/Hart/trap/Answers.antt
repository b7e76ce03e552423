use Rattle.std.proofs.Common.{arith}
use Rattle.std.proofs.lemmas.Grind.{common_steps}
use Rattle.hart.proofs.hart.Hart.trap.Goals as goal

pub returns-clause-outcome : goal.returns-clause-outcome
returns-clause-outcome c = grind (arith, common_steps)

pub returns-clause-hart : goal.returns-clause-hart
returns-clause-hart c = grind (arith, common_steps)
