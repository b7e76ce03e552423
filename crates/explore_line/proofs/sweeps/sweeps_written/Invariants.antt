-- the sweeps so far are those of the arguments so far
use Rattle.std.proofs.Common.{◌≡◌, length}
use Rattle.explore_line.proofs.SweepLemmas.{HasSoFar}
use Rattle.explore_line.proofs.sweeps.sweeps_written.Given as goal

abbrev pub invariant-loop-arg : goal.invariant-loop-arg
invariant-loop-arg l = HasSoFar l.args l.arg-index l.sweeps.items × (length l.sweeps.items ≡ l.arg-index)
