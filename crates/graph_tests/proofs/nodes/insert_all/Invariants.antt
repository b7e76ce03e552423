use Rattle.std.proofs.Common.{◌≡◌}
use Rattle.graph_tests.proofs.nodes.insert_all.Given as goal

abbrev pub invariant-loop-number : goal.invariant-loop-number
invariant-loop-number l = l.nodes.width ≡ 5
