use Rattle.std.proofs.Common.{arith}
use Rattle.std.proofs.lemmas.Grind.{common_steps}
use Rattle.number_lines.specs.Lines.{bounds_line}
use Rattle.number_lines.proofs.lines.bounds_text.Goals as goal

pub returns : goal.returns
returns c = grind (arith, common_steps)
