use Rattle.std.proofs.Common.{arith}
use Rattle.outcomes.proofs.CodeLemmas.{row_size}
use Rattle.outcomes.proofs.rows.row_width.Goals as goal

pub returns-in_ok-code-in-Some : goal.returns-in_ok-code-in-Some
returns-in_ok-code-in-Some g c = grind (arith, row_size)
