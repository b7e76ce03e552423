-- Short names for `using(..)`.
use Rattle.std.proofs.lemmas.List.{take_rest, length-take, length-drop}
use Rattle.asm_requests.proofs.WordLemmas.{before_some, before_none}

pub ruleset words = (before_some, before_none, take_rest, length-take, length-drop)
