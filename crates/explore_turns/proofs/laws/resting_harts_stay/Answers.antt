use Rattle.explore_turns.proofs.RestLemmas.{rest_twice, rest_stopped}
use Rattle.explore_turns.proofs.laws.resting_harts_stay.Goals as goal

pub returns-clause-twice : goal.returns-clause-twice
returns-clause-twice c = rest_twice

pub returns-clause-stopped : goal.returns-clause-stopped
returns-clause-stopped c = rest_stopped
