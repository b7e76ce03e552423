use Rattle.sample_checks.proofs.DecidedLemmas.{in_more}
use Rattle.sample_checks.proofs.laws.slices_decide_together.Goals as goal

pub returns : goal.returns
returns c = in_more
