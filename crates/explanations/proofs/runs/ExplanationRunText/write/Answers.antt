use Rattle.sinks.proofs.SinkLemmas.{takes_none}
use Rattle.explanations.proofs.runs.ExplanationRunText.write.Goals as goal

pub returns-in_err-numbers-clause-prefix : goal.returns-in_err-numbers-clause-prefix
returns-in_err-numbers-clause-prefix g c = (_, takes_none _ _)
