use Rattle.std.proofs.Common.{arith}
use Rattle.std.proofs.lemmas.Grind.{common_steps}
use Rattle.cheri_model.specs.steps.Hart.{link}
use Rattle.hart.proofs.next_pcc.link.Goals as goal

pub returns : goal.returns
unfolding link
returns c = grind (arith, common_steps)
