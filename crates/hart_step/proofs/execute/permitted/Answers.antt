use Rattle.std.proofs.Common.{arith}
use Rattle.std.proofs.lemmas.Grind.{common_steps}
use Rattle.cheri_model.specs.steps.HartStep.{permitted}
use Rattle.hart_step.proofs.execute.permitted.Goals as goal

pub returns-then-has_permission : goal.returns-then-has_permission
unfolding permitted
returns-then-has_permission c = grind (arith, common_steps)

pub returns-else-has_permission : goal.returns-else-has_permission
unfolding permitted
returns-else-has_permission c = grind (arith, common_steps)
