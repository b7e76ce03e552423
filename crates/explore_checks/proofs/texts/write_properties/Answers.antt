use Rattle.explore_checks.specs.CheckTexts.{line_of}
use Rattle.report_lines.proofs.Items.{numbered_step, numbered_end}
use Rattle.explore_checks.proofs.texts.write_properties.Goals as goal

pub loop-property-preserved : goal.loop-property-preserved
loop-property-preserved c =
    numbered_step line_of c.args.told.now c.loop-property.property-index _ _ _ _ _
    c.loop-property-test.true c.property-item.is c.in_ok-write_property.ensures c.loop-property.invariant

pub returns : goal.returns
returns c =
    numbered_end line_of c.args.told.now c.loop-property.property-index _ _ c.loop-property-test.false c.loop-property.invariant
