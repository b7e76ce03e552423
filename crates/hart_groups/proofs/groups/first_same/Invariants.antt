-- no hart so far is the same
use Rattle.std.proofs.Common.{◌<◌, ℕ}
use Rattle.hart_groups.specs.HartGroups.{AreSame}
use Rattle.hart_groups.proofs.groups.first_same.Given as goal

abbrev pub invariant-loop-other : goal.invariant-loop-other
invariant-loop-other l = (k : ℕ) → k < l.other → AreSame l.harts l.named l.hart k → ⊥
