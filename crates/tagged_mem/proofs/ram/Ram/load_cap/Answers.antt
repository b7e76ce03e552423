use Rattle.std.proofs.Common.{arith}
use Rattle.std.proofs.lemmas.Grind.{common_steps}
use Rattle.cheri_model.specs.steps.Memory.{load_capability}
use Rattle.tagged_mem.proofs.ram.Ram.load_cap.Goals as goal

pub returns-clause-value : goal.returns-clause-value
unfolding load_capability
returns-clause-value c = grind (arith, common_steps)

pub returns-clause-lawful : goal.returns-clause-lawful
unfolding load_capability
returns-clause-lawful c = grind (arith, common_steps)
