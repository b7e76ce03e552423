use Rattle.std.proofs.Common.{arith}
use Rattle.std.proofs.lemmas.Grind.{common_steps}
use Rattle.cheri_model.specs.steps.HartStep.{execute}
use Rattle.hart_step.proofs.execute.execute.Goals as goal

pub returns-in-Halt : goal.returns-in-Halt
unfolding execute
returns-in-Halt c = grind (arith, common_steps)
