use Rattle.std.proofs.Common.{arith}
use Rattle.std.proofs.lemmas.Grind.{common_steps}
use Rattle.grammar.specs.Operands.{immediate_of_12_bits}
use Rattle.grammar.proofs.operands.immediate_of_12_bits.Goals as goal

pub returns-in_ok-at_most : goal.returns-in_ok-at_most
unfolding immediate_of_12_bits
returns-in_ok-at_most c = grind (arith, common_steps)

pub returns-in_err-at_most : goal.returns-in_err-at_most
unfolding immediate_of_12_bits
returns-in_err-at_most c = grind (arith, common_steps)
