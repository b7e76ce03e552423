-- Short names for `using(..)`.
use Rattle.grammar.proofs.TokenLemmas.{length_of_texts}
use Rattle.listings.proofs.ImageLemmas.{image_or_size}

pub ruleset image = (image_or_size)

pub ruleset count = (length_of_texts)
