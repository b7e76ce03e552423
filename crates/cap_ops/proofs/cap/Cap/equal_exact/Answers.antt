use Rattle.std.proofs.Common.{arith}
use Rattle.std.proofs.lemmas.Grind.{common_steps}
use Rattle.cap_model.specs.results.Readings.{is_equal_exact}
use Rattle.cap_ops.proofs.cap.Cap.equal_exact.Goals as goal

pub returns-then-not-same_tag : goal.returns-then-not-same_tag
unfolding is_equal_exact
returns-then-not-same_tag c = grind (arith, common_steps)

pub returns : goal.returns
unfolding is_equal_exact
returns c = grind (arith, common_steps)
