use Rattle.std.proofs.Common.{refl}
use Rattle.live_registers.specs.RegisterSets.{forgotten}
use Rattle.live_registers.specs.LiveSets.{forgotten_hart}
use Rattle.live_registers.proofs.ForgettingLemmas.{forgotten_twice, asked_stays}
use Rattle.live_registers.proofs.laws.forgetting_keeps.Goals as goal

pub returns-clause-twice : goal.returns-clause-twice
returns-clause-twice c = forgotten_twice

pub returns-clause-pcc : goal.returns-clause-pcc
unfolding forgotten_hart forgotten
returns-clause-pcc c live h = refl

pub returns-clause-status : goal.returns-clause-status
unfolding forgotten_hart forgotten
returns-clause-status c live h = refl

pub returns-clause-asked : goal.returns-clause-asked
returns-clause-asked c = asked_stays
