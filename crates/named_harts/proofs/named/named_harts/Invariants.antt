-- the stack has a part for each part of the condition so far
use Rattle.std.proofs.Common.{[], take}
use Rattle.std.specs.Prelude.{reverse}
use Rattle.conditions.specs.Formulas.{grown}
use Rattle.named_harts.specs.NamedHarts.{AreSetsOf}
use Rattle.named_harts.proofs.named.named_harts.Given as goal

abbrev pub invariant-loop-node : goal.invariant-loop-node
invariant-loop-node l = AreSetsOf (grown [] (take l.node-index l.nodes)) (reverse l.parts.items)
