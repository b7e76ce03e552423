use Rattle.live_registers.proofs.ForgettingLemmas.{sweep_forgets}
use Rattle.live_registers.proofs.laws.sweeps_forget.Goals as goal

pub returns : goal.returns
returns c = sweep_forgets
