use Rattle.condition_texts.proofs.PlainLemmas.{as_plain_chain}
use Rattle.condition_texts.proofs.laws.chains.Goals as goal

pub returns : goal.returns
returns c = as_plain_chain
