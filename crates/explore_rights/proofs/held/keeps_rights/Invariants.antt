-- the values so far are kept
use Rattle.std.proofs.Common.{◌≡◌, take}
use Rattle.std.specs.Prelude.{true}
use Rattle.std.specs.List.{list_all}
use Rattle.explore_rights.specs.Held.{held_by, is_kept}
use Rattle.explore_rights.proofs.held.keeps_rights.Given as goal

abbrev pub invariant-loop-value : goal.invariant-loop-value
invariant-loop-value l = list_all (is_kept l.others) (take l.value-index (held_by l.before)) ≡ true
