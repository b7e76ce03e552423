use Rattle.std.proofs.Common.{arith}
use Rattle.asked_registers.specs.Asked.{node_asks, condition_asks}
use Rattle.asked_registers.proofs.AskedLemmas.{first_none, first_more, first_all}
use Rattle.asked_registers.proofs.asked.with_nodes.Goals as goal

pub loop-node-init : goal.loop-node-init
loop-node-init c = first_none node_asks c.args.set c.args.nodes.now

pub loop-node-preserved : goal.loop-node-preserved
loop-node-preserved c =
    first_more node_asks c.args.set c.loop-node.asked c.with_node-asked.result c.args.nodes.now c.loop-node.node-index _ c.node-item.result
    (omega (arith, c.loop-node-test.true, c.loop-node.auto.node-index-end)) c.node-item.is c.loop-node.invariant c.with_node-asked.ensures

pub returns : goal.returns
unfolding condition_asks
returns c =
    first_all node_asks c.args.set c.loop-node.asked c.args.nodes.now c.loop-node.node-index
    (omega (arith, c.loop-node-test.false, c.loop-node.auto.node-index-end)) c.loop-node.invariant
