use Rattle.cheri_model.proofs.Runs.Replays.{legal_prefix, events_prefix}
use Rattle.cheri_model.proofs.laws.replays.prefixes_of_runs.Goals as goal

pub returns-clause-legal : goal.returns-clause-legal
returns-clause-legal c = legal_prefix

pub returns-clause-events : goal.returns-clause-events
returns-clause-events c = events_prefix
