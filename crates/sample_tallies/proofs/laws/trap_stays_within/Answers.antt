use Rattle.sample_tallies.proofs.WithinLemmas.{trap_within}
use Rattle.sample_tallies.proofs.laws.trap_stays_within.Goals as goal

pub returns : goal.returns
returns c t trap = trap_within t trap
