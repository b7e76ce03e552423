use Rattle.cheri_caps.proofs.MachineChecks.{access_same}
use Rattle.cheri_caps.proofs.laws.access_checks_are_the_machines.Goals as goal

pub returns : goal.returns
returns c = access_same
