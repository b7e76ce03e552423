use Rattle.std.proofs.Common.{arith}
use Rattle.std.proofs.lemmas.Grind.{common_steps}
use Rattle.grammar.specs.Operands.{type_operand_of}
use Rattle.grammar.proofs.operands.type_operand_of.Goals as goal

pub returns-then-eq : goal.returns-then-eq
unfolding type_operand_of
returns-then-eq c = grind (arith, common_steps)
