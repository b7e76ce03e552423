use Rattle.sample_checks.proofs.DecidedLemmas.{first_decides}
use Rattle.sample_checks.proofs.laws.first_runs_decide.Goals as goal

pub returns : goal.returns
returns c = first_decides
