use Rattle.std.proofs.Common.{arith}
use Rattle.std.proofs.lemmas.Grind.{common_steps}
use Rattle.cheri_model.specs.steps.Checks.{fetch_table}
use Rattle.hart_step.proofs.checks.fetch.fetch_check.Goals as goal

pub returns : goal.returns
unfolding fetch_table
returns c = grind (arith, common_steps)
