use Rattle.std.proofs.Common.{refl}
use Rattle.report_lines.proofs.Items.{numbered_step, numbered_end}
use Rattle.sample_texts.specs.SampleJson.{span_part}
use Rattle.sample_texts.proofs.spans.write_spans.Goals as goal

pub loop-place-preserved : goal.loop-place-preserved
loop-place-preserved c =
    numbered_step (span_part c.args.format) c.args.spans.now c.loop-place.place _ _ _ _ _ c.loop-place-test.true refl
    c.in_ok-write_span.ensures c.loop-place.invariant

pub returns : goal.returns
returns c = numbered_end (span_part c.args.format) c.args.spans.now c.loop-place.place _ _ c.loop-place-test.false c.loop-place.invariant
