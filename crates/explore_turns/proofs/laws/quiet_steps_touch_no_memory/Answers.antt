use Rattle.explore_turns.proofs.QuietLemmas.{own_step_alone}
use Rattle.explore_turns.proofs.laws.quiet_steps_touch_no_memory.Goals as goal

pub returns-clause-hart : goal.returns-clause-hart
returns-clause-hart c program h m alone = (own_step_alone program h m alone).0

pub returns-clause-memory : goal.returns-clause-memory
returns-clause-memory c program h m alone = (own_step_alone program h m alone).1
