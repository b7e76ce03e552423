use Rattle.std.proofs.Common.{arith}
use Rattle.std.proofs.lemmas.Grind.{common_steps}
use Rattle.hart_step.proofs.checks.access.stored_kind.Goals as goal

pub returns-in-None-clause-tagged : goal.returns-in-None-clause-tagged
returns-in-None-clause-tagged c = grind (arith, common_steps)

pub returns-in-None-clause-local : goal.returns-in-None-clause-local
returns-in-None-clause-local c = grind (arith, common_steps)
