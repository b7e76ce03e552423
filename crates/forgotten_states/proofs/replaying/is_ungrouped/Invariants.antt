-- no hart so far is of a group
use Rattle.std.proofs.Common.{◌≡◌, ◌<◌, ℕ}
use Rattle.hart_order.specs.Arrangements.{group_of}
use Rattle.forgotten_states.proofs.replaying.is_ungrouped.Given as goal

abbrev pub invariant-loop-hart : goal.invariant-loop-hart
invariant-loop-hart l = (i : ℕ) → i < l.hart → group_of l.groups i ≡ 0
