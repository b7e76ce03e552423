-- which of the runs so far decide each property
use Rattle.std.proofs.Common.{◌≡◌}
use Rattle.sample_tallies.specs.Tallies.{numbers_from}
use Rattle.sample_checks.specs.Checks.{decided_in}
use Rattle.sample_checks.proofs.counting.count_decided.Given as goal

abbrev pub invariant-loop-done : goal.invariant-loop-done
invariant-loop-done l = record {
  runner : l.runner.image ≡ l.image;
  machine : l.machine.image ≡ l.image;
  decided : l.decided.items ≡ decided_in l.image l.drawing l.properties (numbers_from l.first l.done);
}
