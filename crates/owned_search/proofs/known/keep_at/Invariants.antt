-- the numbers that were known are, and no others
use Rattle.std.proofs.Common.{◌≡◌, ℕ, ◌+◌, ◌-◌, length}
use Rattle.std.specs.Prelude.{Some, slice_get}
use Rattle.owned_search.proofs.known.keep_at.Given as goal

abbrev pub invariant-loop-known : goal.invariant-loop-known
invariant-loop-known l = (k n : ℕ) → slice_get l.known.items k ≡ Some (Some n) → slice_get l.initial.known.items k ≡ Some (Some n)

abbrev pub decreases-loop-known : goal.decreases-loop-known
decreases-loop-known l = l.place + 1 - length l.known.items
