use Rattle.std.proofs.Common.{arith}
use Rattle.std.proofs.lemmas.Grind.{common_steps}
use Rattle.cheri_model.specs.steps.Checks.{jump_table}
use Rattle.hart_step.proofs.checks.jumps.jump_verdict.Goals as goal

pub returns : goal.returns
unfolding jump_table
returns c = grind (arith, common_steps)
