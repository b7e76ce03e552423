-- By the round trip.
use Rattle.cap_model.proofs.Words.WordsBack.{same_from_word}
use Rattle.cap_model.proofs.laws.words.lawful_words_differ.Goals as goal

pub returns : goal.returns
returns c = same_from_word
