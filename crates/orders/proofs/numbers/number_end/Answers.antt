use Rattle.std.proofs.Common.{arith}
use Rattle.std.proofs.lemmas.Grind.{common_steps}
use Rattle.orders.specs.Numbers.{number_end}
use Rattle.orders.proofs.numbers.number_end.Goals as goal

pub returns-then-has_byte-clause-end : goal.returns-then-has_byte-clause-end
unfolding number_end
returns-then-has_byte-clause-end c = grind (arith, common_steps)

pub returns-else-count-gt0-clause-end : goal.returns-else-count-gt0-clause-end
unfolding number_end
returns-else-count-gt0-clause-end c = grind (arith, common_steps)
