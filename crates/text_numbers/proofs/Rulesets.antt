-- Short names for `using(..)`.
use Rattle.text_numbers.proofs.Counts.{all_taken}
use Rattle.text_numbers.proofs.NumeralLemmas.{digits_folded}

pub ruleset reading = (all_taken, digits_folded)
