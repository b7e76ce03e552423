-- Short names for `using(..)`.
use Rattle.cheri_model.proofs.Runs.Instructions.{forms_back}

pub ruleset back = (forms_back)
