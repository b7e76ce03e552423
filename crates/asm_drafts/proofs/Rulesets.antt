-- Short names for `using(..)`.
use Rattle.std.proofs.lemmas.Nat.{one_shl}

pub ruleset powers = (one_shl)
