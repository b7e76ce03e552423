use Rattle.own_granules.proofs.KeptLemmas.{none_kept, none_left}
use Rattle.own_granules.proofs.laws.no_sweeps_clear_nothing.Goals as goal

pub returns-clause-memory : goal.returns-clause-memory
returns-clause-memory c = none_kept

pub returns-clause-steps : goal.returns-clause-steps
returns-clause-steps c = none_left
