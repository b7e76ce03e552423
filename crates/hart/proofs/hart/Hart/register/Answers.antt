use Rattle.std.proofs.Common.{arith}
use Rattle.std.proofs.lemmas.Grind.{common_steps}
use Rattle.cheri_model.specs.steps.Hart.{register}
use Rattle.hart.proofs.hart.Hart.register.Goals as goal

pub returns-clause-value : goal.returns-clause-value
unfolding register
returns-clause-value c = grind (arith, common_steps)

pub returns-clause-lawful : goal.returns-clause-lawful
unfolding register
returns-clause-lawful c = grind (arith, common_steps)
