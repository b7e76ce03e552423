-- those before it have other places
use Rattle.std.proofs.Common.{◌≡◌, ◌<◌, ℕ, false}
use Rattle.std.specs.Prelude.{Some, slice_get}
use Rattle.sample_tallies.specs.declared.seen.TrapSeen.{TrapSeen}
use Rattle.sample_tallies.specs.SameStates.{same_place}
use Rattle.sample_tallies.proofs.traps.place_of.Given as goal

abbrev pub invariant-loop-number : goal.invariant-loop-number
invariant-loop-number l =
    (i : ℕ) (trap : TrapSeen) → i < l.number → slice_get l.traps i ≡ Some trap
    → same_place trap.place l.place ≡ false
