use Rattle.explore_properties.proofs.LineLemmas.{byte_more, no_byte}
use Rattle.explore_properties.proofs.lines.text_length.Goals as goal

pub loop-place-preserved : goal.loop-place-preserved
loop-place-preserved c = (
  rw c.end_after-end.ensures.end
      (byte_more c.args.line.now c.loop-place.place _ c.loop-place.end _ c.loop-place-test.true c.loop-place.invariant.0),
  c.end_after-end.ensures.within c.loop-place.invariant.1,
)

pub returns-clause-length : goal.returns-clause-length
returns-clause-length c =
    no_byte c.args.line.now c.loop-place.place c.loop-place.end _ c.loop-place-test.false c.loop-place.invariant.0
