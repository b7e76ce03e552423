use Rattle.cap_model.proofs.Results.Derivations.{result_lawful}
use Rattle.cap_model.proofs.laws.results.results_are_lawful.Goals as goal

pub returns : goal.returns
returns c = result_lawful
