use Rattle.forgotten_turns.proofs.OrderLemmas.{order_leads}
use Rattle.forgotten_turns.proofs.laws.orders_of_forgotten_turns_lead.Goals as goal

pub returns-clause-allowed : goal.returns-clause-allowed
returns-clause-allowed c image sight live labels ops r right hidden are walk =
    (order_leads image sight live right (λ before after. hidden before after) labels ops r are walk).allowed

pub returns-clause-legal : goal.returns-clause-legal
returns-clause-legal c image sight live labels ops r right hidden are walk =
    (order_leads image sight live right (λ before after. hidden before after) labels ops r are walk).legal

pub returns-clause-leads : goal.returns-clause-leads
returns-clause-leads c image sight live labels ops r right hidden are walk =
    (order_leads image sight live right (λ before after. hidden before after) labels ops r are walk).leads
