-- what the nodes so far look at
use Rattle.std.proofs.Common.{take}
use Rattle.std.specs.List.{list_any}
use Rattle.asked_granules.specs.AskedGranules.{IsWith, node_reads}
use Rattle.asked_granules.proofs.asked.with_nodes.Given as goal

abbrev pub invariant-loop-node : goal.invariant-loop-node
invariant-loop-node l =
    IsWith l.fn.shared.items (λ granule. list_any (λ n. node_reads n granule) (take l.node-index l.nodes)) l.all.items
