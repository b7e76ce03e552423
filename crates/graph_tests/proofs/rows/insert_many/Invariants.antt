use Rattle.std.proofs.Common.{◌≡◌}
use Rattle.graph_tests.proofs.rows.insert_many.Given as goal

abbrev pub invariant-loop-n : goal.invariant-loop-n
invariant-loop-n l = l.rows.width ≡ 3
