use Rattle.std.proofs.Common.{arith}
use Rattle.std.proofs.lemmas.Grind.{common_steps}
use Rattle.hart_step.proofs.checks.fetch.is_in_code.Goals as goal

pub returns-then-addr-ge-CODE_BASE : goal.returns-then-addr-ge-CODE_BASE
returns-then-addr-ge-CODE_BASE c = grind (arith, common_steps)

pub returns-else-addr-ge-CODE_BASE : goal.returns-else-addr-ge-CODE_BASE
returns-else-addr-ge-CODE_BASE c = grind (arith, common_steps)
