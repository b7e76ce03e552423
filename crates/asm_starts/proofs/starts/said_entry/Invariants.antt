-- the words that are left
use Rattle.std.proofs.Common.{◌≡◌, drop, map}
use Rattle.asm_requests.specs.Words.{word_parts}
use Rattle.asm_starts.specs.Starts.{said_entry}
use Rattle.asm_starts.proofs.starts.said_entry.Given as goal

abbrev pub invariant-loop-word : goal.invariant-loop-word
invariant-loop-word l = said_entry (map word_parts (drop l.word-index l.words)) ≡ said_entry (map word_parts l.words)
