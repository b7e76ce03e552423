-- Short names for `using(..)`.
use Rattle.shown_states.proofs.JsonLemmas.{harts_no_float, memory_no_float}

pub ruleset texts = (harts_no_float, memory_no_float)
