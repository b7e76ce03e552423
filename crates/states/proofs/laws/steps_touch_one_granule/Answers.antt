use Rattle.states.proofs.TouchLemmas.{step_is_local}
use Rattle.states.proofs.laws.steps_touch_one_granule.Goals as goal

pub returns-clause-hart : goal.returns-clause-hart
returns-clause-hart c program h m v some has = (step_is_local program h m v some has).hart

pub returns-clause-memory : goal.returns-clause-memory
returns-clause-memory c program h m v some has = (step_is_local program h m v some has).memory
