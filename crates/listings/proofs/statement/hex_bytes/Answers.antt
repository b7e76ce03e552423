use Rattle.std.proofs.Common.{arith}
use Rattle.std.proofs.lemmas.Grind.{common_steps}
use Rattle.listings.specs.Statement.{hex_bytes}
use Rattle.listings.proofs.statement.hex_bytes.Goals as goal

pub returns-in-Ok : goal.returns-in-Ok
unfolding hex_bytes
returns-in-Ok c = grind (arith, common_steps)
