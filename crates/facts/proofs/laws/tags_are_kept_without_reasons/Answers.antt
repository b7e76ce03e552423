use Rattle.facts.proofs.Reasons.{kept_without_why}
use Rattle.facts.proofs.laws.tags_are_kept_without_reasons.Goals as goal

pub returns : goal.returns
returns c = kept_without_why
