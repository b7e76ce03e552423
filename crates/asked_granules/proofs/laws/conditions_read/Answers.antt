use Rattle.asked_granules.proofs.HoldingLemmas.{holds_same}
use Rattle.asked_granules.proofs.laws.conditions_read.Goals as goal

pub returns : goal.returns
returns c = holds_same
