-- The fields of the word read back.
use Rattle.cap_model.proofs.Words.WordsBack.{word_lt, upper_lt, encoding_of, has_its_fields}
use Rattle.cap_model.proofs.laws.words.lawful_word_is_encoding.Goals as goal

pub returns-clause-word : goal.returns-clause-word
returns-clause-word c = word_lt

pub returns-clause-upper : goal.returns-clause-upper
returns-clause-upper c = upper_lt

pub returns-clause-encoding : goal.returns-clause-encoding
returns-clause-encoding c = encoding_of

pub returns-clause-fields : goal.returns-clause-fields
returns-clause-fields c = has_its_fields
