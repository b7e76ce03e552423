use Rattle.std.proofs.Common.{ap, arith, length}
use Rattle.condition_texts.specs.WordPairs.{word_pairs}
use Rattle.condition_texts.proofs.WordLemmas.{words_begin, words_end}
use Rattle.condition_texts.proofs.words.condition_words.Goals as goal

pub loop-place-init : goal.loop-place-init
loop-place-init c = (omega arith, words_begin c.args.text.now _ (ap word_pairs c.new-words.ensures.items))

pub returns : goal.returns
returns c =
    words_end c.args.text.now c.loop-place.run.start _ c.loop-place.run.alone _ _ _ c.loop-place.invariant.0
    (length c.args.text.now) (omega arith) (omega (arith, c.loop-place-test.false)) c.loop-place.invariant.1 c.in_ok-push_run.ensures
