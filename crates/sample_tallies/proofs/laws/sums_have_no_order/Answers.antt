use Rattle.sample_tallies.proofs.TallyLemmas.{sums_the_same}
use Rattle.sample_tallies.proofs.laws.sums_have_no_order.Goals as goal

pub returns : goal.returns
returns c a b = sums_the_same a b
