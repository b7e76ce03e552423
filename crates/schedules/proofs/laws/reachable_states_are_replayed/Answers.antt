use Rattle.schedules.proofs.WalkLemmas.{reachable_replayed, replayed_reachable}
use Rattle.schedules.proofs.laws.reachable_states_are_replayed.Goals as goal

pub returns-clause-replayed : goal.returns-clause-replayed
returns-clause-replayed c = reachable_replayed

pub returns-clause-reached : goal.returns-clause-reached
returns-clause-reached c = replayed_reachable
