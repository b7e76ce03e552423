use Rattle.std.proofs.Common.{arith}
use Rattle.std.proofs.lemmas.Grind.{common_steps}
use Rattle.grammar.specs.Capability.{capability_of}
use Rattle.grammar.proofs.capability.CapParts.capability.Goals as goal

pub returns-in-Ok : goal.returns-in-Ok
unfolding capability_of
returns-in-Ok c = grind (arith, common_steps)

pub returns-in-Err : goal.returns-in-Err
unfolding capability_of
returns-in-Err c = grind (arith, common_steps)
