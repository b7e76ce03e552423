use Rattle.cap_model.proofs.Results.Derivations.{result_derived}
use Rattle.cap_model.proofs.laws.results.results_are_derived.Goals as goal

pub returns : goal.returns
returns c = result_derived
