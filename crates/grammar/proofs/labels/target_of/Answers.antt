use Rattle.std.proofs.Common.{arith}
use Rattle.std.proofs.lemmas.Grind.{common_steps}
use Rattle.grammar.specs.Labels.{target_of}
use Rattle.grammar.proofs.labels.target_of.Goals as goal

pub returns-in_ok-number-in-Number : goal.returns-in_ok-number-in-Number
unfolding target_of
returns-in_ok-number-in-Number c = grind (arith, common_steps)

pub returns-in_err-number-in-Number : goal.returns-in_err-number-in-Number
unfolding target_of
returns-in_err-number-in-Number c = grind (arith, common_steps)
