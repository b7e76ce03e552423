-- Short names for `using(..)`.
use Rattle.interner.proofs.WordLemmas.{word_is, no_word}

pub ruleset words = (word_is, no_word)
