-- Short names for `using(..)`.
use Rattle.std.proofs.lemmas.List.{take_rest}
use Rattle.asm_names.proofs.CutLemmas.{taken_within, taken_again}

pub ruleset cuts = (take_rest, taken_within, taken_again)
