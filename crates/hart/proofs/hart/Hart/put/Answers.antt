use Rattle.std.proofs.Common.{arith}
use Rattle.std.proofs.lemmas.Grind.{common_steps}
use Rattle.cheri_model.specs.steps.Hart.{put}
use Rattle.hart.proofs.hart.Hart.put.Goals as goal

pub returns-then-number-ne0-clause-value : goal.returns-then-number-ne0-clause-value
unfolding put
returns-then-number-ne0-clause-value c = grind (arith, common_steps)

pub returns-then-number-ne0-clause-pcc : goal.returns-then-number-ne0-clause-pcc
unfolding put
returns-then-number-ne0-clause-pcc c = grind (arith, common_steps)

pub returns-else-number-ne0-clause-value : goal.returns-else-number-ne0-clause-value
unfolding put
returns-else-number-ne0-clause-value c = grind (arith, common_steps)

pub returns-else-number-ne0-clause-pcc : goal.returns-else-number-ne0-clause-pcc
unfolding put
returns-else-number-ne0-clause-pcc c = grind (arith, common_steps)
