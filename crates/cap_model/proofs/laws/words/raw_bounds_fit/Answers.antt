-- Each part is a remainder, or is capped.
use Rattle.cap_model.proofs.Words.RawWords.{word_exponent_at_most, word_b_lt, word_t14_lt, raw_base_lt, raw_top_lt}
use Rattle.cap_model.proofs.laws.words.raw_bounds_fit.Goals as goal

pub returns-clause-exponent : goal.returns-clause-exponent
returns-clause-exponent c = word_exponent_at_most

pub returns-clause-b : goal.returns-clause-b
returns-clause-b c = word_b_lt

pub returns-clause-t : goal.returns-clause-t
returns-clause-t c = word_t14_lt

pub returns-clause-base : goal.returns-clause-base
returns-clause-base c = raw_base_lt

pub returns-clause-top : goal.returns-clause-top
returns-clause-top c = raw_top_lt
