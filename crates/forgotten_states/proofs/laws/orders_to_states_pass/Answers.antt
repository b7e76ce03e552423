use Rattle.forgotten_states.proofs.SurveyLemmas.{order_passes}
use Rattle.forgotten_states.proofs.laws.orders_to_states_pass.Goals as goal

pub returns : goal.returns
returns c image sight live groups s passing order to same renamed holds =
    order_passes image sight live groups s passing order to (λ t. same t) (λ one other r. renamed one other r) holds
