use Rattle.std.proofs.Common.{map}
use Rattle.outcome_texts.specs.ReducedTexts.{said_row_line}
use Rattle.report_lines.proofs.Items.{numbered_step, numbered_end}
use Rattle.outcome_texts.proofs.shown.write_rows.Goals as goal

pub loop-number-preserved : goal.loop-number-preserved
loop-number-preserved c =
    numbered_step (said_row_line c.args.reduced (map (λ name. name.now) c.args.names.now)) c.args.rows.now c.loop-number.number _ _ _ _ _
    c.loop-number-test.true c.index-rows-number.is c.in_ok-write_row.ensures c.loop-number.invariant

pub returns : goal.returns
returns c =
    numbered_end (said_row_line c.args.reduced (map (λ name. name.now) c.args.names.now)) c.args.rows.now c.loop-number.number _ _ c.loop-number-test.false
    c.loop-number.invariant
