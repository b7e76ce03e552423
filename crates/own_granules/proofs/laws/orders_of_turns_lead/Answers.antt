use Rattle.own_granules.proofs.HeldLemmas.{order_leads}
use Rattle.own_granules.proofs.laws.orders_of_turns_lead.Goals as goal

pub returns : goal.returns
returns c = order_leads
