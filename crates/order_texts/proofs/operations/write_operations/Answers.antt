use Rattle.std.proofs.Common.{refl}
use Rattle.order_texts.proofs.BackLemmas.{operation_written, operations_end}
use Rattle.order_texts.proofs.operations.write_operations.Goals as goal

pub loop-op-preserved : goal.loop-op-preserved
loop-op-preserved c =
    operation_written c.args.order.now c.loop-op.op-index _ _ _ _ _ c.loop-op-test.true refl c.in_ok-write.ensures.bytes
    c.loop-op.invariant

pub returns : goal.returns
returns c = operations_end c.args.order.now c.loop-op.op-index _ _ c.loop-op-test.false c.loop-op.invariant
