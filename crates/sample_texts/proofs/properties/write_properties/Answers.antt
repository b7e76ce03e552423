use Rattle.report_lines.proofs.Items.{numbered_step, numbered_end}
use Rattle.sample_texts.specs.SampleJson.{property_part}
use Rattle.sample_texts.proofs.properties.write_properties.Goals as goal

pub loop-place-preserved : goal.loop-place-preserved
loop-place-preserved c =
    numbered_step (property_part c.args.format) c.args.properties.now c.loop-place.place _ _ _ _ _ c.loop-place-test.true c.index-properties-place.is
    c.in_ok-write_property.ensures c.loop-place.invariant

pub returns : goal.returns
returns c = numbered_end (property_part c.args.format) c.args.properties.now c.loop-place.place _ _ c.loop-place-test.false c.loop-place.invariant
