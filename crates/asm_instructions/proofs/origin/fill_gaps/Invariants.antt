use Rattle.asm_instructions.proofs.Gaps.{AreFilled}
use Rattle.asm_instructions.proofs.origin.fill_gaps.Given as goal

abbrev pub invariant-loop-at : goal.invariant-loop-at
invariant-loop-at l = AreFilled l.marks l.origins.items l.next l.at

abbrev pub decreases-loop-at : goal.decreases-loop-at
decreases-loop-at l = l.at
