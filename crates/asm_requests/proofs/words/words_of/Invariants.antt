-- the words so far, and then those of what is left
use Rattle.std.proofs.Common.{◌≡◌, ◌+◌, ◌≤◌, ◌++◌, length, map}
use Rattle.asm_requests.specs.Words.{word_parts, words_from, words_of}
use Rattle.asm_requests.proofs.words.words_of.Given as goal

abbrev pub invariant-loop-rest : goal.invariant-loop-rest
invariant-loop-rest l = record {
  column : l.at + length l.rest ≤ l.column + length l.text;
  words : map word_parts l.words.items ++ words_from 0 l.at l.rest ≡ words_of l.column l.text;
}

abbrev pub decreases-loop-rest : goal.decreases-loop-rest
decreases-loop-rest l = length l.rest
