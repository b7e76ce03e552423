-- The words so far, and then those of the bytes that are left.
use Rattle.condition_texts.specs.Words.{condition_words}
use Rattle.condition_texts.specs.WordPairs.{Remains}
use Rattle.condition_texts.proofs.words.condition_words.Given as goal

abbrev pub invariant-loop-place : goal.invariant-loop-place
invariant-loop-place l = Remains l.text l.words.items l.run l.place (condition_words l.text)
