-- the first places with what is added, and the others as they were
use Rattle.std.proofs.Common.{◌≡◌}
use Rattle.std.specs.Prelude.{Option}
use Rattle.sample_tallies.specs.declared.seen.Seen.{Seen}
use Rattle.sample_checks.proofs.DecidedLemmas.{seen_so_far}
use Rattle.sample_checks.proofs.checked.see_each.Given as goal

abbrev pub invariant-loop-place : goal.invariant-loop-place
invariant-loop-place l = l.decided ≡ seen_so_far (λ (x : Option Seen). x) l.others l.fn.decided l.place
