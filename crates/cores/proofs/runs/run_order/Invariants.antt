-- the run of what is left, from the core so far, is the run of the order
use Rattle.std.proofs.Common.{◌≡◌, drop}
use Rattle.cores.specs.Cores.{IsCore}
use Rattle.cores.specs.Runs.{run_from, run_of}
use Rattle.cores.proofs.runs.run_order.Given as goal

abbrev pub invariant-loop-place : goal.invariant-loop-place
invariant-loop-place l = record {
  core : IsCore l.core;
  run : run_from l.core l.place (drop l.place l.order) ≡ run_of l.fn.image l.order l.limit;
}
