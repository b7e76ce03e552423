use Rattle.forgotten_outcomes.proofs.ToldLemmas.{row_step}
use Rattle.forgotten_outcomes.proofs.told.rows_told.Goals as goal

pub loop-row-preserved : goal.loop-row-preserved
loop-row-preserved c =
    row_step c.args.survey.now c.args.shown.now c.args.rows.now c.loop-row.row-index _ c.loop-row.told.items _ c.in_ok-row_told.field-0
    c.loop-row-test.true c.in_ok-push.ensures.items c.loop-row.invariant c.in_ok-row_told.ensures
