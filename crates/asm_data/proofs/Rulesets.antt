-- Short names for `using(..)`.
use Rattle.std.proofs.Common.{append_assoc}

pub ruleset strings = (append_assoc)
