use Rattle.sample_tallies.proofs.TallyLemmas.{slices_sum}
use Rattle.sample_tallies.proofs.laws.slices_add_up.Goals as goal

pub returns : goal.returns
returns c image drawing numbers more = slices_sum image drawing numbers more
