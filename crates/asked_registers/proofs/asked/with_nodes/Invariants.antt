-- what the nodes so far ask for
use Rattle.std.proofs.Common.{take}
use Rattle.std.specs.List.{list_any}
use Rattle.asked_registers.specs.Asked.{IsWith, node_asks}
use Rattle.asked_registers.proofs.asked.with_nodes.Given as goal

abbrev pub invariant-loop-node : goal.invariant-loop-node
invariant-loop-node l = IsWith l.fn.set (λ reg. list_any (λ n. node_asks n reg) (take l.node-index l.nodes)) l.asked
