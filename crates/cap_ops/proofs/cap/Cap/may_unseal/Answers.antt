use Rattle.std.proofs.Common.{arith}
use Rattle.std.proofs.lemmas.Grind.{common_steps}
use Rattle.cap_model.specs.results.Addresses.{address_of}
use Rattle.cap_ops.proofs.cap.Cap.may_unseal.Goals as goal

pub returns-clause-value : goal.returns-clause-value
unfolding address_of
returns-clause-value c = grind (arith, common_steps)
