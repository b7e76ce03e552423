-- Short names for `using(..)`.
use Rattle.std.proofs.lemmas.List.{length-replicate}

pub ruleset lengths = (length-replicate)
