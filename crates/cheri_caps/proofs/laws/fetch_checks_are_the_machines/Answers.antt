use Rattle.cheri_caps.proofs.MachineChecks.{fetch_same}
use Rattle.cheri_caps.proofs.laws.fetch_checks_are_the_machines.Goals as goal

pub returns : goal.returns
returns c = fetch_same
