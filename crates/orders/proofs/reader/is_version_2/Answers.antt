use Rattle.orders.specs.Orders.{is_version_2}
use Rattle.orders.proofs.reader.is_version_2.Goals as goal

pub returns-clause-version : goal.returns-clause-version
unfolding is_version_2
returns-clause-version c = c.starts_with.ensures.value
