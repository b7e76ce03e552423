-- what is taken in all stays the same
use Rattle.std.proofs.Common.{◌≡◌, length}
use Rattle.asm_expressions.specs.Drafts.{pending_of}
use Rattle.asm_expressions.specs.Expressions.{settled}
use Rattle.asm_expressions.proofs.draft.Draft.settle.Given as goal

abbrev pub invariant-loop-node : goal.invariant-loop-node
invariant-loop-node l = settled l.least (pending_of l.self) ≡ settled l.least (pending_of l.initial.self)

abbrev pub decreases-loop-node : goal.decreases-loop-node
decreases-loop-node l = length l.self.waiting.items
