-- the words that are left
use Rattle.std.proofs.Common.{◌≡◌, drop, map}
use Rattle.asm_requests.specs.Words.{word_parts}
use Rattle.asm_starts.specs.Starts.{has_exit}
use Rattle.asm_starts.proofs.starts.has_exit.Given as goal

abbrev pub invariant-loop-word : goal.invariant-loop-word
invariant-loop-word l = has_exit (map word_parts (drop l.word-index l.words)) ≡ has_exit (map word_parts l.words)
