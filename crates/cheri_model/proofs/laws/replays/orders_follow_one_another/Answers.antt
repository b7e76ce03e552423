use Rattle.cheri_model.proofs.Runs.Replays.{state_after-append, events_of-append, is_legal-append}
use Rattle.cheri_model.proofs.laws.replays.orders_follow_one_another.Goals as goal

pub returns-clause-state : goal.returns-clause-state
returns-clause-state c = state_after-append

pub returns-clause-events : goal.returns-clause-events
returns-clause-events c = events_of-append

pub returns-clause-legal : goal.returns-clause-legal
returns-clause-legal c = is_legal-append
