use Rattle.cheri_model.proofs.Runs.Sweeping.{swept_inside, swept_below, swept_above, swept_raw}
use Rattle.cheri_model.proofs.laws.sweeps.sweeps_clear_their_range.Goals as goal

pub returns-clause-cleared : goal.returns-clause-cleared
returns-clause-cleared c = swept_inside

pub returns-clause-below : goal.returns-clause-below
returns-clause-below c = swept_below

pub returns-clause-above : goal.returns-clause-above
returns-clause-above c = swept_above

pub returns-clause-untagged : goal.returns-clause-untagged
returns-clause-untagged c = swept_raw
