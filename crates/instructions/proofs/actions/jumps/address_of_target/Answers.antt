use Rattle.std.proofs.Common.{arith}
use Rattle.std.proofs.lemmas.Grind.{common_steps}
use Rattle.cheri_model.specs.steps.Actions.{address_of_target}
use Rattle.instructions.proofs.actions.jumps.address_of_target.Goals as goal

pub returns : goal.returns
unfolding address_of_target
returns c = grind (arith, common_steps)
