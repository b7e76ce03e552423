use Rattle.facts.proofs.Reasons.{reason_so}
use Rattle.facts.proofs.laws.reasons_are_so.Goals as goal

pub returns : goal.returns
returns c = reason_so
