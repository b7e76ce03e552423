use Rattle.std.proofs.Common.{arith}
use Rattle.std.proofs.lemmas.Grind.{common_steps}
use Rattle.grammar.specs.Operands.{register_of}
use Rattle.grammar.proofs.operands.register_of.Goals as goal

pub returns-in-99-2 : goal.returns-in-99-2
unfolding register_of
returns-in-99-2 c = grind (arith, common_steps)
