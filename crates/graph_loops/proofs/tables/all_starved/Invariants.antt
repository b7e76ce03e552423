use Rattle.std.proofs.Common.{ℕ, ◌<◌}
use Rattle.graph_loops.specs.Scans.{IsStarved}
use Rattle.graph_loops.proofs.tables.all_starved.Given as goal

abbrev pub invariant-loop-number : goal.invariant-loop-number
invariant-loop-number l = (n : ℕ) → n < l.number → IsStarved l.moves l.runs l.actors n
