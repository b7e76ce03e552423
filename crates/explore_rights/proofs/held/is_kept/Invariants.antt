-- none so far bounds the value's rights
use Rattle.std.proofs.Common.{◌≡◌, take}
use Rattle.std.specs.Prelude.{false}
use Rattle.std.specs.List.{list_any}
use Rattle.explore_rights.specs.Held.{bounds}
use Rattle.explore_rights.proofs.held.is_kept.Given as goal

abbrev pub invariant-loop-other : goal.invariant-loop-other
invariant-loop-other l = list_any (bounds l.rights) (take l.other-index l.others) ≡ false
