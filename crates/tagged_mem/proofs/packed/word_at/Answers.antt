use Rattle.std.proofs.Common.{arith}
use Rattle.std.proofs.lemmas.Grind.{common_steps}
use Rattle.tagged_mem.specs.Packed.{number_at}
use Rattle.tagged_mem.proofs.packed.word_at.Goals as goal

pub returns : goal.returns
unfolding number_at
returns c = grind (arith, common_steps)
