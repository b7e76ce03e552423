use Rattle.std.proofs.Common.{arith}
use Rattle.std.proofs.lemmas.Grind.{common_steps}
use Rattle.tagged_mem.proofs.ram.Ram.holds.Goals as goal

pub returns-then-addr-ge-RAM_BASE : goal.returns-then-addr-ge-RAM_BASE
returns-then-addr-ge-RAM_BASE c = grind (arith, common_steps)

pub returns-else-addr-ge-RAM_BASE : goal.returns-else-addr-ge-RAM_BASE
returns-else-addr-ge-RAM_BASE c = grind (arith, common_steps)
