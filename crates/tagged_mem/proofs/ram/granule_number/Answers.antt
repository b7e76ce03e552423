use Rattle.std.proofs.Common.{arith}
use Rattle.std.proofs.lemmas.Grind.{common_steps}
use Rattle.tagged_mem.proofs.ram.granule_number.Goals as goal

pub returns : goal.returns
returns c = grind (arith, common_steps)
