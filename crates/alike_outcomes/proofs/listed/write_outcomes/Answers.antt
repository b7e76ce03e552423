use Rattle.report_lines.proofs.Items.{numbered_step, numbered_end}
use Rattle.alike_outcomes.specs.AlikeTexts.{left_text}
use Rattle.alike_outcomes.proofs.LeftLemmas.{taken_at}
use Rattle.alike_outcomes.proofs.listed.write_outcomes.Goals as goal

pub write_left-requires-clause-allowed : goal.write_left-requires-clause-allowed
write_left-requires-clause-allowed c =
    rw (c.as_slice.ensures.value, c.index-orders-number.is)
    (taken_at c.args.image.now c.args.orders.now c.loop-number.number _ c.requires c.loop-number-test.true).allowed

pub write_left-requires-clause-legal : goal.write_left-requires-clause-legal
write_left-requires-clause-legal c =
    rw (c.as_slice.ensures.value, c.index-orders-number.is)
    (taken_at c.args.image.now c.args.orders.now c.loop-number.number _ c.requires c.loop-number-test.true).legal

pub loop-number-preserved : goal.loop-number-preserved
loop-number-preserved c =
    numbered_step (left_text c.args.format c.args.image.now) c.args.orders.now c.loop-number.number _ _ _ _ _
    c.loop-number-test.true c.index-orders-number.is (rw c.as_slice.ensures.value at c.in_ok-write_left.ensures)
    c.loop-number.invariant

pub returns : goal.returns
returns c =
    numbered_end (left_text c.args.format c.args.image.now) c.args.orders.now c.loop-number.number _ _
    c.loop-number-test.false c.loop-number.invariant
