-- the run of what is left, from the core so far, is the run of the order
use Rattle.std.proofs.Common.{◌≡◌, length}
use Rattle.cores.specs.Cores.{IsCore}
use Rattle.cores.specs.Runs.{run_from, run_of}
use Rattle.cores.proofs.runs.run_judged.Given as goal

abbrev pub invariant-loop-op : goal.invariant-loop-op
invariant-loop-op l = record {
  core : IsCore l.core;
  run : run_from l.core l.place l.order ≡ run_of l.fn.image l.fn.order l.limit;
  place : l.place ≡ length l.core.trace;
  limit : l.core.limit ≡ l.limit;
}

abbrev pub decreases-loop-op : goal.decreases-loop-op
decreases-loop-op l = length l.order
