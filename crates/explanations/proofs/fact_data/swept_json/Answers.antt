use Rattle.std.proofs.Common.{refl}
use Rattle.serde_json.proofs.Views.{view-Object}
use Rattle.explanations.proofs.SweptLemmas.{member_more, members_end}
use Rattle.explanations.proofs.fact_data.swept_json.Goals as goal

pub loop-place-preserved : goal.loop-place-preserved
loop-place-preserved c =
    member_more c.args.places.now c.loop-place.place-index _ _ c.loop-place-test.true refl _ _ _ c.in_ok-put_swept.ensures c.loop-place.invariant

pub returns : goal.returns
returns c =
    rw (view-Object, members_end c.args.places.now c.loop-place.place-index _ _ c.loop-place-test.false c.loop-place.invariant)
