use Rattle.std.proofs.Common.{arith}
use Rattle.std.proofs.lemmas.Grind.{common_steps}
use Rattle.listings.specs.Draft.{add_hart}
use Rattle.listings.proofs.draft.Draft.add_hart.Goals as goal

pub returns : goal.returns
unfolding add_hart
returns c = grind (arith, common_steps)
