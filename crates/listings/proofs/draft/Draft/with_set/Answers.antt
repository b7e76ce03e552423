use Rattle.std.proofs.Common.{arith}
use Rattle.std.proofs.lemmas.Grind.{common_steps}
use Rattle.listings.specs.Draft.{with_set}
use Rattle.listings.proofs.draft.Draft.with_set.Goals as goal

pub returns : goal.returns
unfolding with_set
returns c = grind (arith, common_steps)

pub returns-in_err-value : goal.returns-in_err-value
unfolding with_set
returns-in_err-value c = grind (arith, common_steps)
