use Rattle.explore_turns.proofs.PassingLemmas.{rest_passes}
use Rattle.explore_turns.proofs.laws.passing_states_rest.Goals as goal

pub returns : goal.returns
returns c image sweeps sight passing keeps s holds = rest_passes image sweeps sight passing keeps s holds
