use Rattle.std.proofs.Common.{arith}
use Rattle.std.proofs.lemmas.Grind.{common_steps}
use Rattle.cheri_model.proofs.image.are_sizes.Goals as goal

pub returns-then-ram-eq0 : goal.returns-then-ram-eq0
returns-then-ram-eq0 c = grind (arith, common_steps)

pub returns-else-ram-eq0 : goal.returns-else-ram-eq0
returns-else-ram-eq0 c = grind (arith, common_steps)
