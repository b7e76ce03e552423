use Rattle.hart_exchanges.proofs.ExchangeLemmas.{order_holds}
use Rattle.hart_exchanges.proofs.laws.equal_harts_come_to_hold_the_same.Goals as goal

pub returns : goal.returns
returns c image one other order rights inside equal legal holds =
    order_holds one other image inside equal order legal rights holds
