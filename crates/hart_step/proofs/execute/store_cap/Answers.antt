use Rattle.std.proofs.Common.{arith}
use Rattle.std.proofs.lemmas.Grind.{common_steps}
use Rattle.cheri_model.specs.steps.HartStep.{execute}
use Rattle.hart_step.proofs.execute.store_cap.Goals as goal

pub returns-in-Ok : goal.returns-in-Ok
unfolding execute
returns-in-Ok c = grind (arith, common_steps)
