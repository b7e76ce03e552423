use Rattle.std.proofs.Common.{◌∙◌, map, sym}
use Rattle.condition_texts.proofs.ReadingLemmas.{word_at, no_word_at, items_turn, items_stop, items_end}
use Rattle.condition_texts.proofs.lists.shown_in.Goals as goal

pub returns-in-None : goal.returns-in-None
returns-in-None c =
    let here = word_at c.args.words.now c.loop-number.number _ c.as_bytes.result.now c.loop-number-test.true c.as_bytes.ensures.value in
    items_stop c.args.image.now c.loop-number.number c.as_bytes.result.now (map (λ word. word.now) c.args.words.now) _ _
    (sym c.shown_at.ensures ∙ c.in-None.is) here c.loop-number.invariant

pub loop-number-preserved : goal.loop-number-preserved
loop-number-preserved c =
    let here = word_at c.args.words.now c.loop-number.number _ c.as_bytes.result.now c.loop-number-test.true c.as_bytes.ensures.value in
    rw c.in_ok-push-in-Some.ensures
    (items_turn c.args.image.now c.loop-number.number c.as_bytes.result.now (map (λ word. word.now) c.args.words.now) c.in-Some.shown _ _
    (sym c.shown_at.ensures ∙ c.in-Some.is) here c.loop-number.invariant)

pub returns : goal.returns
returns c =
    items_end c.args.image.now c.loop-number.number (map (λ word. word.now) c.args.words.now) _ _
    (no_word_at c.args.words.now c.loop-number.number c.loop-number-test.false) c.loop-number.invariant
