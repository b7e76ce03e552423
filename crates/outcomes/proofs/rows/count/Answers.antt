use Rattle.std.proofs.Common.{arith}
use Rattle.outcomes.proofs.TableLemmas.{counted_new, counted_there}
use Rattle.outcomes.proofs.rows.count.Goals as goal

pub returns-then-number-len : goal.returns-then-number-len
returns-then-number-len c = grind (arith, counted_there)

pub returns : goal.returns
returns c = grind (arith, counted_new)
