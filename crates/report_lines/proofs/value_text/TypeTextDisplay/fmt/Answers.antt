use Rattle.std.proofs.Common.{arith}
use Rattle.std.proofs.lemmas.Grind.{common_steps}
use Rattle.report_lines.proofs.value_text.TypeTextDisplay.fmt.Goals as goal

pub returns-in-262142-clause-writes : goal.returns-in-262142-clause-writes
returns-in-262142-clause-writes g c = grind (arith, common_steps)
