use Rattle.std.proofs.Common.{refl, length}
use Rattle.outcomes.proofs.ItemTextLemmas.{items_step, items_end, in_both, past_one}
use Rattle.outcomes.proofs.item_texts.write_items.Goals as goal

pub loop-place-preserved : goal.loop-place-preserved
loop-place-preserved c =
    let both = in_both c.loop-place.place c.min-place-end.result (length c.args.names.now) (length c.args.values.now)
    c.min-place-end.ensures c.loop-place-test.true in
    items_step (λ name. name.now) c.args.names.now c.args.values.now c.loop-place.place _ _ _ _ _ _ _ both.0 both.1
    refl refl c.in_ok-write_item.ensures c.loop-place.invariant

pub returns : goal.returns
returns c =
    items_end (λ name. name.now) c.args.names.now c.args.values.now c.loop-place.place _ _
    (past_one c.loop-place.place c.min-place-end.result (length c.args.names.now) (length c.args.values.now)
    c.min-place-end.ensures c.loop-place-test.false)
    c.loop-place.invariant
