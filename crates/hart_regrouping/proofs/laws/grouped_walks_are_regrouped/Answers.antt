use Rattle.hart_regrouping.proofs.RegroupLemmas.{regrouped_walk}
use Rattle.hart_regrouping.proofs.laws.grouped_walks_are_regrouped.Goals as goal

pub returns : goal.returns
returns c image sight live groups labels r walk = regrouped_walk groups image sight live labels r walk
