use Rattle.std.proofs.Common.{[], take, arith}
use Rattle.conditions.specs.Formulas.{grown}
use Rattle.named_harts.proofs.StackLemmas.{none_are, next_are, all_are}
use Rattle.named_harts.proofs.named.named_harts.Goals as goal

pub loop-node-init : goal.loop-node-init
loop-node-init c = rw c.new-parts.ensures.items none_are

pub loop-node-preserved : goal.loop-node-preserved
loop-node-preserved c =
    next_are c.args.nodes.now c.loop-node.node-index _ c.node-item.result _
    (omega (arith, c.loop-node-test.true, c.loop-node.auto.node-index-end)) c.node-item.is
    (c.in_ok-grow.ensures _ c.loop-node.invariant)

pub returns : goal.returns
returns c =
    let nodes = take c.loop-node.node-index c.args.nodes.now in
    all_are c.args.nodes.now c.loop-node.node-index c.last_named.result
    (omega (arith, c.loop-node-test.false, c.loop-node.auto.node-index-end))
    (c.last_named.ensures (grown [] nodes) (rw c.deref.ensures.value c.loop-node.invariant))
