-- The bytes so far, and then those up to the word among those that are left.
use Rattle.std.proofs.Common.{◌≡◌, ◌+◌, drop}
use Rattle.condition_texts.specs.Words.{word_start}
use Rattle.condition_texts.proofs.words.word_start.Given as goal

abbrev pub invariant-loop-place : goal.invariant-loop-place
invariant-loop-place l =
    l.place + word_start l.separator l.left (drop l.place l.text) ≡ word_start l.separator l.number l.text
