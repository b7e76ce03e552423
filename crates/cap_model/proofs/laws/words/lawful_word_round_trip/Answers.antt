-- Each field reads back.
use Rattle.cap_model.proofs.Words.WordsBack.{capability_at_word_of}
use Rattle.cap_model.proofs.laws.words.lawful_word_round_trip.Goals as goal

pub returns : goal.returns
returns c = capability_at_word_of
