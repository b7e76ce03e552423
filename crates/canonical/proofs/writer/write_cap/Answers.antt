use Rattle.std.proofs.Common.{arith}
use Rattle.std.proofs.lemmas.Grind.{common_steps}
use Rattle.canonical.specs.Canon.{cap_text}
use Rattle.canonical.proofs.writer.write_cap.Goals as goal

pub returns : goal.returns
unfolding cap_text
returns c = grind (arith, common_steps)
