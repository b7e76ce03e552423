use Rattle.own_granules.proofs.HeldLemmas.{same_come}
use Rattle.own_granules.proofs.laws.ways_are_of_one_hart.Goals as goal

pub returns : goal.returns
returns c = same_come
