use Rattle.owned_turns.proofs.SearchLemmas.{order_reached, rest_passes}
use Rattle.owned_turns.proofs.laws.passing_states_are_reached.Goals as goal

pub returns-clause-reached : goal.returns-clause-reached
returns-clause-reached c image shared owner sight live order is right hidden owned allowed legal =
    order_reached image shared sight live right (λ before after. hidden before after) owner owned order is allowed
    legal

pub returns-clause-passes : goal.returns-clause-passes
returns-clause-passes c image shared sight live passing keeps same s holds =
    rest_passes image shared sight live passing keeps same s holds
