-- the first properties with what the run says of them, and the others as they were
use Rattle.std.proofs.Common.{◌≡◌}
use Rattle.sample_checks.proofs.DecidedLemmas.{says, seen_so_far}
use Rattle.sample_checks.proofs.counting.see_run.Given as goal

abbrev pub invariant-loop-place : goal.invariant-loop-place
invariant-loop-place l = record {
  image : l.machine.image ≡ l.fn.machine.image;
  decided : l.decided ≡ seen_so_far (says l.fn.machine.image l.order l.run) l.properties l.fn.decided l.place;
}
