-- By the round trip of words.
use Rattle.cap_model.specs.values.ValueFacts.{IsLawfulValue-value_at}
use Rattle.cap_model.proofs.Results.Values.{value_back, value_tagged}
use Rattle.cap_model.proofs.laws.words.lawful_values_read_back.Goals as goal

pub returns-clause-back : goal.returns-clause-back
returns-clause-back c = value_back

pub returns-clause-tagged : goal.returns-clause-tagged
returns-clause-tagged c = value_tagged

pub returns-clause-lawful : goal.returns-clause-lawful
returns-clause-lawful c = IsLawfulValue-value_at
