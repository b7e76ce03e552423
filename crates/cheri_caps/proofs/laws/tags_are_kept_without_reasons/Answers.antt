use Rattle.cheri_caps.proofs.ReasonLemmas.{kept_without_why}
use Rattle.cheri_caps.proofs.laws.tags_are_kept_without_reasons.Goals as goal

pub returns : goal.returns
returns c = kept_without_why
