use Rattle.cap_model.proofs.Results.ReasonTables.{tag_kept}
use Rattle.cap_model.proofs.laws.results.tags_are_kept_without_reasons.Goals as goal

pub returns : goal.returns
returns c = tag_kept
