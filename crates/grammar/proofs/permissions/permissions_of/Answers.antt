use Rattle.std.proofs.Common.{arith}
use Rattle.std.proofs.lemmas.Grind.{common_steps}
use Rattle.grammar.specs.Permissions.{permissions_of}
use Rattle.bitflags.specs.Sets.{known_from}
use Rattle.grammar.proofs.permissions.permissions_of.Goals as goal

pub returns-then-eq : goal.returns-then-eq
unfolding permissions_of known_from
returns-then-eq c = grind (arith, common_steps)
