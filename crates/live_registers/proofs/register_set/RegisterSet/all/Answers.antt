use Rattle.live_registers.proofs.SetLemmas.{all_has}
use Rattle.live_registers.proofs.register_set.RegisterSet.all.Goals as goal

pub returns : goal.returns
returns c = all_has 32
