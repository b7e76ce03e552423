use Rattle.std.proofs.Common.{arith}
use Rattle.std.proofs.lemmas.Grind.{common_steps}
use Rattle.grammar.specs.Labels.{label_fault}
use Rattle.grammar.proofs.labels.label_fault.Goals as goal

pub returns-in-Some : goal.returns-in-Some
unfolding label_fault
returns-in-Some c = grind (arith, common_steps)
