use Rattle.sample_tallies.proofs.WithinLemmas.{end_within}
use Rattle.sample_tallies.proofs.laws.end_stays_within.Goals as goal

pub returns : goal.returns
returns c t end = end_within t end
