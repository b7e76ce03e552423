use Rattle.hart_order.proofs.RenamedLemmas.{arranged_renamed}
use Rattle.hart_order.proofs.laws.arranged_states_are_renamed.Goals as goal

pub returns : goal.returns
returns c groups stays others state = arranged_renamed groups stays (λ hart stay. others hart stay) state
