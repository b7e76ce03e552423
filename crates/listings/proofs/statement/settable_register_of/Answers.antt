use Rattle.std.proofs.Common.{arith}
use Rattle.std.proofs.lemmas.Grind.{common_steps}
use Rattle.listings.specs.Statement.{settable_register_of}
use Rattle.listings.proofs.statement.settable_register_of.Goals as goal

pub returns : goal.returns
unfolding settable_register_of
returns c = grind (arith, common_steps)
