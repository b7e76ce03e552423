use Rattle.std.proofs.Common.{arith}
use Rattle.std.proofs.lemmas.Grind.{common_steps}
use Rattle.listings.specs.Draft.{with_bytes}
use Rattle.listings.proofs.draft.Draft.with_bytes.Goals as goal

pub returns : goal.returns
unfolding with_bytes
returns c = grind (arith, common_steps)
