use Rattle.std.proofs.Common.{◌≡◌, Some, replicate}
use Rattle.asm_instructions.specs.Overwriting.{overwritten}
use Rattle.asm_instructions.proofs.origin.mark.Given as goal

-- those so far, and then the others
abbrev pub invariant-loop-left : goal.invariant-loop-left
invariant-loop-left l =
    overwritten l.marks l.place (replicate l.left (Some l.origin)) ≡ overwritten l.initial.marks l.at (replicate l.count (Some l.origin))

abbrev pub decreases-loop-left : goal.decreases-loop-left
decreases-loop-left l = l.left
