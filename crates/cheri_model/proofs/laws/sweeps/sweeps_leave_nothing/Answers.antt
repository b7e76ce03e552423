use Rattle.cheri_model.proofs.Runs.Sweeping.{state_left}
use Rattle.cheri_model.proofs.laws.sweeps.sweeps_leave_nothing.Goals as goal

pub returns : goal.returns
returns c = state_left
