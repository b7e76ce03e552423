-- Short names for `using(..)`.
use Rattle.std.proofs.lemmas.List.{take_rest}
use Rattle.asm_tokens.proofs.CutLemmas.{taken_within, taken_again, all_of_three}
use Rattle.asm_tokens.proofs.EscapeLemmas.{escaped_read}
use Rattle.asm_tokens.proofs.NumberLemmas.{narrowed_within, is_read}

pub ruleset cuts = (take_rest, taken_within, taken_again, all_of_three, escaped_read)

pub ruleset numbers = (narrowed_within, is_read, cuts)
