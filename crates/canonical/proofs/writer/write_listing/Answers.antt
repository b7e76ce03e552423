use Rattle.std.proofs.Common.{arith}
use Rattle.std.proofs.lemmas.Grind.{common_steps}
use Rattle.canonical.proofs.writer.write_listing.Goals as goal

pub returns-clause-canonical : goal.returns-clause-canonical
returns-clause-canonical c = grind (arith, common_steps)
