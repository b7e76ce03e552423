use Rattle.std.proofs.Common.{arith}
use Rattle.std.proofs.lemmas.Grind.{common_steps}
use Rattle.cheri_model.specs.instructions.Integers.{extended_word}
use Rattle.instructions.proofs.integers.extended_word.Goals as goal

pub returns : goal.returns
unfolding extended_word
returns c = grind (arith, common_steps)
