use Rattle.explore_turns.proofs.PassingLemmas.{seen_states_rest, seen_turns}
use Rattle.explore_turns.proofs.laws.seen_steps_are_turns.Goals as goal

pub returns-clause-states : goal.returns-clause-states
returns-clause-states c image sweeps s = seen_states_rest image sweeps s

pub returns-clause-turns : goal.returns-clause-turns
returns-clause-turns c image sweeps s l = seen_turns image sweeps s l
