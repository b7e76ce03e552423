-- so many operations were taken, and no state before decides
use Rattle.std.proofs.Common.{◌≡◌}
use Rattle.sample_runs.specs.Runners.{state_of}
use Rattle.sample_checks.proofs.DecidingLemmas.{GoesOn}
use Rattle.sample_checks.proofs.machine.Machine.decided_after.Given as goal

abbrev pub invariant-loop-done : goal.invariant-loop-done
invariant-loop-done l = record {
  image : l.self.image ≡ l.fn.self.image;
  goes : GoesOn l.fn.self.image l.claim l.order l.done (state_of l.self);
}
