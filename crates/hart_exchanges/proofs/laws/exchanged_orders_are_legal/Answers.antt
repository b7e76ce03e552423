use Rattle.hart_exchanges.proofs.ExchangeLemmas.{order_allowed, order_leaves, order_legal}
use Rattle.hart_exchanges.proofs.laws.exchanged_orders_are_legal.Goals as goal

pub returns-clause-legal : goal.returns-clause-legal
returns-clause-legal c image one other order inside equal legal = order_legal one other image inside equal order legal

pub returns-clause-leaves : goal.returns-clause-leaves
returns-clause-leaves c image one other order inside equal legal = order_leaves one other image inside equal order legal

pub returns-clause-allowed : goal.returns-clause-allowed
returns-clause-allowed c sweeps one other order allowed = order_allowed one other sweeps order allowed
