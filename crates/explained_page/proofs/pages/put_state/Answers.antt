use Rattle.sinks.proofs.SinkLemmas.{takes_none}
use Rattle.explained_page.proofs.pages.put_state.Goals as goal

pub returns-in_err-follower-clause-prefix : goal.returns-in_err-follower-clause-prefix
returns-in_err-follower-clause-prefix g c = (_, takes_none _ _)

pub returns-in_err-push_str-clause-prefix : goal.returns-in_err-push_str-clause-prefix
returns-in_err-push_str-clause-prefix g c = (_, takes_none _ _)

pub returns-in_err-write_state-clause-prefix : goal.returns-in_err-write_state-clause-prefix
returns-in_err-write_state-clause-prefix g c = (_, takes_none _ _)
