use Rattle.std.proofs.Common.{refl, length}
use Rattle.serde_json.proofs.Views.{view-Object}
use Rattle.outcomes.proofs.ItemTextLemmas.{puts_step, puts_end, in_both, past_one}
use Rattle.outcomes.proofs.item_texts.items_json.Goals as goal

pub loop-place-preserved : goal.loop-place-preserved
loop-place-preserved c =
    let both = in_both c.loop-place.place c.min-place-end.result (length c.args.names.now) (length c.args.values.now)
    c.min-place-end.ensures c.loop-place-test.true in
    puts_step (λ name. name.now) c.args.names.now c.args.values.now c.loop-place.place _ _ _ _ _ _ _ both.0 both.1
    refl refl (simp (c.from.ensures, c.in_ok-text.ensures) at c.in_ok-put.ensures.ok) c.loop-place.invariant

pub returns : goal.returns
returns c =
    rw (
      view-Object,
      puts_end (λ name. name.now) c.args.names.now c.args.values.now c.loop-place.place _ _
          (past_one c.loop-place.place c.min-place-end.result (length c.args.names.now) (length c.args.values.now)
          c.min-place-end.ensures c.loop-place-test.false)
          c.loop-place.invariant,
    )
