use Rattle.std.proofs.Common.{arith}
use Rattle.std.proofs.lemmas.Grind.{common_steps}
use Rattle.notation.specs.Instructions.{form_text}
use Rattle.notation.proofs.instructions.InstructionTextDisplay.fmt.Goals as goal

pub returns-in-Two-clause-writes : goal.returns-in-Two-clause-writes
unfolding form_text
returns-in-Two-clause-writes g c = grind (arith, common_steps)
