use Rattle.std.proofs.Common.{arith}
use Rattle.std.proofs.lemmas.Grind.{common_steps}
use Rattle.tagged_mem.proofs.ram.Ram.swap_cap.Goals as goal

pub returns-clause-old : goal.returns-clause-old
returns-clause-old c = grind (arith, common_steps)

pub returns-clause-new : goal.returns-clause-new
returns-clause-new c = grind (arith, common_steps)

pub returns-clause-lawful : goal.returns-clause-lawful
returns-clause-lawful c = grind (arith, common_steps)
