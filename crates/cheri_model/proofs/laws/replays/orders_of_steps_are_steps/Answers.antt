use Rattle.cheri_model.proofs.Runs.Replays.{state_after-steps, events_of-steps, is_legal-steps}
use Rattle.cheri_model.proofs.laws.replays.orders_of_steps_are_steps.Goals as goal

pub returns-clause-state : goal.returns-clause-state
returns-clause-state c = state_after-steps

pub returns-clause-events : goal.returns-clause-events
returns-clause-events c = events_of-steps

pub returns-clause-legal : goal.returns-clause-legal
returns-clause-legal c = is_legal-steps
