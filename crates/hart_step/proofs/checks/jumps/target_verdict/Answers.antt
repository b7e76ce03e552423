use Rattle.std.proofs.Common.{arith}
use Rattle.std.proofs.lemmas.Grind.{common_steps}
use Rattle.cheri_model.specs.steps.Checks.{target_table}
use Rattle.hart_step.proofs.checks.jumps.target_verdict.Goals as goal

pub returns : goal.returns
unfolding target_table
returns c = grind (arith, common_steps)
