use Rattle.cap_model.proofs.Results.Rebuildings.{built_back}
use Rattle.cap_model.proofs.laws.results.capabilities_are_rebuilt_from_their_words.Goals as goal

pub returns : goal.returns
returns c = built_back
