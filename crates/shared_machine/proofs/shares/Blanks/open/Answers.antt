use Rattle.std.proofs.Common.{arith}
use Rattle.std.proofs.lemmas.Grind.{common_steps}
use Rattle.shared_machine.proofs.shares.Blanks.open.Goals as goal

pub returns-clause-books : goal.returns-clause-books
returns-clause-books c = grind (arith, common_steps)

pub returns-clause-parts : goal.returns-clause-parts
returns-clause-parts c = grind (arith, common_steps)

pub returns-clause-amounts : goal.returns-clause-amounts
returns-clause-amounts c = grind (arith, common_steps)
