use Rattle.std.proofs.Common.{arith}
use Rattle.std.proofs.lemmas.Grind.{common_steps}
use Rattle.listings.specs.Draft.{with_ram}
use Rattle.listings.proofs.draft.Draft.with_ram.Goals as goal

pub returns : goal.returns
unfolding with_ram
returns c = grind (arith, common_steps)

pub returns-in-Err-Size : goal.returns-in-Err-Size
unfolding with_ram
returns-in-Err-Size c = grind (arith, common_steps)

pub returns-in_default : goal.returns-in_default
unfolding with_ram
returns-in_default c = grind (arith, common_steps)
