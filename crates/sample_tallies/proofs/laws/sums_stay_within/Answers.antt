use Rattle.sample_tallies.proofs.WithinLemmas.{sum_within}
use Rattle.sample_tallies.proofs.laws.sums_stay_within.Goals as goal

pub returns : goal.returns
returns c a b = sum_within a b
