use Rattle.std.proofs.Common.{arith}
use Rattle.std.proofs.lemmas.Grind.{common_steps}
use Rattle.cheri_model.proofs.image.is_granule.Goals as goal

pub returns-then-tag : goal.returns-then-tag
returns-then-tag c = grind (arith, common_steps)

pub returns-else-tag : goal.returns-else-tag
returns-else-tag c = grind (arith, common_steps)

pub returns-else-from : goal.returns-else-from
returns-else-from c = grind (arith, common_steps)
