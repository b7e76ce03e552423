use Rattle.facts.proofs.Written.{written_result}
use Rattle.facts.proofs.laws.results_are_derived.Goals as goal

pub returns : goal.returns
returns c = written_result
