-- PCC and the registers so far
use Rattle.std.proofs.Common.{◌≡◌, ℕ, ◌+◌, ◌<◌, length, get_or}
use Rattle.cap_model.specs.values.CapValue.{CapValue}
use Rattle.explore_rights.specs.Held.{held_by}
use Rattle.explore_rights.proofs.held.held_by.Given as goal

abbrev pub invariant-loop-number : goal.invariant-loop-number
invariant-loop-number l =
    (length l.held ≡ 33)
    × ((k : ℕ) (d : CapValue) → k < l.number + 1 → get_or l.held k d ≡ get_or (held_by l.hart) k d)
