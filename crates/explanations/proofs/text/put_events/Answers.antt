use Rattle.sinks.proofs.SinkLemmas.{takes_none}
use Rattle.explanations.proofs.text.put_events.Goals as goal

pub returns-in_err-follower-clause-prefix : goal.returns-in_err-follower-clause-prefix
returns-in_err-follower-clause-prefix g c = (_, takes_none _ _)
