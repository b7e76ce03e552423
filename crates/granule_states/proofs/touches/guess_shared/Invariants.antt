-- what was shared still is
use Rattle.std.proofs.Common.{◌≡◌, ℕ}
use Rattle.std.specs.Prelude.{true}
use Rattle.granule_states.specs.Graphs.{is_shared}
use Rattle.granule_states.proofs.touches.guess_shared.Given as goal

abbrev pub invariant-loop-granule : goal.invariant-loop-granule
invariant-loop-granule l = (granule : ℕ) → is_shared l.shared granule ≡ true → is_shared l.more.items granule ≡ true
