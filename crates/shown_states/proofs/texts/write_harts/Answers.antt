use Rattle.report_lines.proofs.Items.{numbered_step, numbered_end}
use Rattle.reports.specs.Report.{hart_lines}
use Rattle.shown_states.proofs.texts.write_harts.Goals as goal

pub loop-number-preserved : goal.loop-number-preserved
loop-number-preserved c =
    numbered_step hart_lines c.args.harts.now c.loop-number.number _ _ _ _ _ c.loop-number-test.true c.index-harts-number.is
    c.in_ok-write_hart.ensures c.loop-number.invariant

pub returns : goal.returns
returns c = numbered_end hart_lines c.args.harts.now c.loop-number.number _ _ c.loop-number-test.false c.loop-number.invariant
