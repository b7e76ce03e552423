use Rattle.std.proofs.Common.{arith}
use Rattle.std.proofs.lemmas.Grind.{common_steps}
use Rattle.sim_program.specs.Answers.{check_line}
use Rattle.sim_program.proofs.answers.check_text.Goals as goal

pub returns : goal.returns
unfolding check_line
returns c = grind (arith, common_steps)
