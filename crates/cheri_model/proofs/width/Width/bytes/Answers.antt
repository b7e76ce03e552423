use Rattle.std.proofs.Common.{arith}
use Rattle.std.proofs.lemmas.Grind.{common_steps}
use Rattle.cheri_model.proofs.width.Width.bytes.Goals as goal

pub returns-in-Word : goal.returns-in-Word
returns-in-Word c = grind (arith, common_steps)
