use Rattle.std.proofs.Common.{◌≡◌, arith}
use Rattle.std.proofs.lemmas.List.{append-nil}
use Rattle.reduced_texts.specs.ReducedTexts.{left_out_words, register_words, words_to}
use Rattle.reduced_texts.proofs.WordLemmas.{words_more}
use Rattle.reduced_texts.proofs.words.left_out_words.Goals as goal

pub loop-number-init : goal.loop-number-init
unfolding words_to
loop-number-init c = rw append-nil c.in_ok-words.ensures

pub loop-number-preserved : goal.loop-number-preserved
loop-number-preserved c =
    words_more c.args.left_out.groups c.loop-number.number (register_words c.args.left_out.registers) _ _ c.loop-number.invariant
    c.in_ok-push_group.ensures

pub returns : goal.returns
unfolding left_out_words
returns c =
    let all : c.loop-number.number ≡ 8 = omega arith in
    rw all at c.loop-number.invariant
