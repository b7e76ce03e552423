-- the words that are left
use Rattle.std.proofs.Common.{◌≡◌, ◌-◌, ◌≤◌, length}
use Rattle.asm_statements.specs.Marks.{source}
use Rattle.asm_statements.specs.Sections.{words_up_to, words_after}
use Rattle.asm_statements.proofs.reader.Reader.more_words.Given as goal

abbrev pub invariant-loop : goal.invariant-loop
invariant-loop l = record {
  words : words_up_to (length (source l.self) - l.counter) (source l.self) l.next ≡ words_after (source l.self) l.at;
  room : l.next ≤ length l.self.tokens.now;
}
