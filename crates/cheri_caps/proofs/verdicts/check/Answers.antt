use Rattle.std.proofs.Common.{refl}
use Rattle.cheri_model.specs.steps.Checks.{first_failing}
use Rattle.cheri_caps.proofs.verdicts.check.Goals as goal

pub returns-then-fails : goal.returns-then-fails
unfolding first_failing
returns-then-fails c = rw c.if-fails.true refl

pub returns : goal.returns
unfolding first_failing
returns c = rw c.if-fails.false refl
