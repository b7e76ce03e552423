use Rattle.std.proofs.Common.{arith}
use Rattle.std.proofs.lemmas.Grind.{common_steps}
use Rattle.grammar.specs.Operands.{type_in_range}
use Rattle.grammar.proofs.operands.type_in_range.Goals as goal

pub returns-in_ok-number-in-Number : goal.returns-in_ok-number-in-Number
unfolding type_in_range
returns-in_ok-number-in-Number c = grind (arith, common_steps)

pub returns-in_err-number-in-Number : goal.returns-in_err-number-in-Number
unfolding type_in_range
returns-in_err-number-in-Number c = grind (arith, common_steps)
