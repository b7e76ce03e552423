use Rattle.forgotten_turns.proofs.OrderLemmas.{order_reached, rest_passes_forgotten}
use Rattle.forgotten_turns.proofs.laws.passing_states_are_reached.Goals as goal

pub returns-clause-reached : goal.returns-clause-reached
returns-clause-reached c image sight live order right hidden allowed legal =
    order_reached image sight live right (λ before after. hidden before after) order allowed legal

pub returns-clause-passes : goal.returns-clause-passes
returns-clause-passes c image sight live passing keeps same s holds =
    rest_passes_forgotten image sight live passing keeps same s holds
