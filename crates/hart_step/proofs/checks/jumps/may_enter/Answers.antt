use Rattle.std.proofs.Common.{arith}
use Rattle.std.proofs.lemmas.Grind.{common_steps}
use Rattle.hart_step.proofs.checks.jumps.may_enter.Goals as goal

pub returns-then-number-eq-UNSEALED_TYPE : goal.returns-then-number-eq-UNSEALED_TYPE
returns-then-number-eq-UNSEALED_TYPE c = grind (arith, common_steps)

pub returns-then-number-eq-SENTRY_TYPE : goal.returns-then-number-eq-SENTRY_TYPE
returns-then-number-eq-SENTRY_TYPE c = grind (arith, common_steps)

pub returns-else-number-eq-SENTRY_TYPE : goal.returns-else-number-eq-SENTRY_TYPE
returns-else-number-eq-SENTRY_TYPE c = grind (arith, common_steps)
