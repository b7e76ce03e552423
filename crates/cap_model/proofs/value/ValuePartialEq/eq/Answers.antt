-- Equality compares the bits and the tags that the two values give back.
use Rattle.std.proofs.Common.{arith}
use Rattle.std.proofs.lemmas.Grind.{common_steps}
use Rattle.cap_model.specs.values.ValueFacts.{value_facts}
use Rattle.cap_model.proofs.value.ValuePartialEq.eq.Goals as goal

pub returns : goal.returns
returns c = grind (arith, common_steps, value_facts)
