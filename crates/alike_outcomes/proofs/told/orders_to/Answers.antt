use Rattle.alike_outcomes.proofs.LeftLemmas.{left_step}
use Rattle.alike_outcomes.proofs.told.orders_to.Goals as goal

pub loop-node-preserved : goal.loop-node-preserved
loop-node-preserved c =
    left_step c.args.survey.now c.args.outcomes.now c.loop-node.node-index _ c.loop-node.orders.items _ c.in_ok-order_left.field-0
    c.loop-node-test.true c.in_ok-push.ensures.items c.loop-node.invariant c.in_ok-order_left.ensures
