use Rattle.std.proofs.Common.{arith}
use Rattle.std.proofs.lemmas.Grind.{common_steps}
use Rattle.orders.specs.Orders.{token_at}
use Rattle.orders.proofs.reader.operation_at.Goals as goal

pub returns-in-91-clause-token : goal.returns-in-91-clause-token
unfolding token_at
returns-in-91-clause-token c = grind (arith, common_steps)

pub returns-in-48-to-55-clause-token : goal.returns-in-48-to-55-clause-token
unfolding token_at
returns-in-48-to-55-clause-token c = grind (arith, common_steps)

pub returns-in_default-clause-token : goal.returns-in_default-clause-token
unfolding token_at
returns-in_default-clause-token c = grind (arith, common_steps)
