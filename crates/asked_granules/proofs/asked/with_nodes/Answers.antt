use Rattle.std.proofs.Common.{arith}
use Rattle.asked_granules.specs.AskedGranules.{condition_reads, node_reads}
use Rattle.asked_granules.proofs.AskedLemmas.{first_more, first_all, reads_shared}
use Rattle.asked_granules.proofs.asked.with_nodes.Goals as goal

pub loop-node-preserved : goal.loop-node-preserved
loop-node-preserved c =
    first_more node_reads c.args.shared.items c.loop-node.all.items c.with_node-all.result.items c.args.nodes.now c.loop-node.node-index _ c.node-item.result
    (omega (arith, c.loop-node-test.true, c.loop-node.auto.node-index-end)) c.node-item.is c.loop-node.invariant c.with_node-all.ensures

pub returns-clause-exact : goal.returns-clause-exact
unfolding condition_reads
returns-clause-exact c =
    first_all node_reads c.args.shared.items c.loop-node.all.items c.args.nodes.now c.loop-node.node-index
    (omega (arith, c.loop-node-test.false, c.loop-node.auto.node-index-end)) c.loop-node.invariant

pub returns-clause-asked : goal.returns-clause-asked
unfolding condition_reads
returns-clause-asked c =
    reads_shared c.args.shared.items c.loop-node.all.items (condition_reads c.args.nodes.now) (returns-clause-exact c)
