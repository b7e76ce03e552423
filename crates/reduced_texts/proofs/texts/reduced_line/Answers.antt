use Rattle.std.proofs.Common.{refl, string_bytes, ap, ◌∙◌, List, map, String, Global}
use Rattle.reduced_texts.proofs.WordLemmas.{line_whole, word_written, words_end}
use Rattle.reduced_texts.proofs.texts.reduced_line.Goals as goal

pub loop-word-init : goal.loop-word-init
loop-word-init c = refl

pub loop-word-preserved : goal.loop-word-preserved
loop-word-preserved c =
    word_written string_bytes c.deref-word-items.result.now c.loop-word.word-index _ c.word-item.result _ _ _ _ c.loop-word-test.true
    c.word-item.is c.in_ok-push_str.ensures.bytes (rw c.as_str.ensures.value at c.in_ok-push_str-2.ensures.bytes) c.loop-word.invariant

pub returns : goal.returns
returns c =
    line_whole c.args.left_out _ _ _ (map string_bytes c.deref-word-items.result.now) c.in_ok-line.ensures.ok
    (words_end string_bytes c.deref-word-items.result.now c.loop-word.word-index _ _ c.loop-word-test.false c.loop-word.invariant)
    (ap (λ (words : List (String Global)). map string_bytes words) c.deref-word-items.ensures.value ∙ c.in_ok-words.ensures)
    c.in_ok-push_str-3.ensures.bytes
