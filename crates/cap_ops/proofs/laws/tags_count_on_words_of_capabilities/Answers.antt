use Rattle.cap_ops.proofs.Encodings.{test_of_encodings, test_of_capabilities}
use Rattle.cap_ops.proofs.laws.tags_count_on_words_of_capabilities.Goals as goal

pub returns-clause-encoding : goal.returns-clause-encoding
returns-clause-encoding c = test_of_encodings

pub returns-clause-capability : goal.returns-clause-capability
returns-clause-capability c = test_of_capabilities
