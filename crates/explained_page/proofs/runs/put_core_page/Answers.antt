use Rattle.sinks.proofs.SinkLemmas.{takes_none}
use Rattle.explained_page.proofs.runs.put_core_page.Goals as goal

pub returns-in_err-lines-clause-prefix : goal.returns-in_err-lines-clause-prefix
returns-in_err-lines-clause-prefix g c = (_, takes_none _ _)
