use Rattle.std.proofs.Common.{refl}
use Rattle.explanations.proofs.SweptLemmas.{line_more, lines_end}
use Rattle.explanations.proofs.text.write_places.Goals as goal

pub loop-place-preserved : goal.loop-place-preserved
loop-place-preserved c =
    line_more c.args.places.now c.loop-place.place-index _ _ c.loop-place-test.true refl _ _ _ c.in_ok-write_swept.ensures c.loop-place.invariant

pub returns : goal.returns
returns c = lines_end c.args.places.now c.loop-place.place-index _ _ c.loop-place-test.false c.loop-place.invariant
