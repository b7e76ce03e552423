use Rattle.facts.proofs.TrapsSo.{trap_so}
use Rattle.facts.proofs.laws.trap_reasons_are_so.Goals as goal

pub returns : goal.returns
returns c = trap_so
