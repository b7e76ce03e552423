use Rattle.facts.proofs.Told.{trap_told, loss_told}
use Rattle.facts.proofs.laws.steps_tell_traps_and_losses.Goals as goal

pub returns-clause-traps : goal.returns-clause-traps
returns-clause-traps c = trap_told

pub returns-clause-losses : goal.returns-clause-losses
returns-clause-losses c program number hart memory origins lawful = loss_told hart memory origins number program lawful
