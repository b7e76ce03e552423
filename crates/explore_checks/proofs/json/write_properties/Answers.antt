use Rattle.explore_checks.specs.CheckTexts.{property_data}
use Rattle.report_lines.specs.JsonText.{item_text}
use Rattle.report_lines.proofs.Items.{numbered_step, numbered_end}
use Rattle.explore_checks.proofs.json.write_properties.Goals as goal

pub loop-number-preserved : goal.loop-number-preserved
loop-number-preserved c =
    numbered_step (item_text property_data) c.args.told.now c.loop-number.number _ _ _ _ _
    c.loop-number-test.true c.index-told-number.is c.in_ok-write_property.ensures c.loop-number.invariant

pub returns : goal.returns
returns c =
    numbered_end (item_text property_data) c.args.told.now c.loop-number.number _ _ c.loop-number-test.false c.loop-number.invariant
