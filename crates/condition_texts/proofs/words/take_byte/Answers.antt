use Rattle.std.proofs.Common.{sym, ◌∙◌, arith}
use Rattle.condition_texts.proofs.WordLemmas.{byte_is, byte_is_not, words_space, words_parenthesis, words_other}
use Rattle.condition_texts.proofs.words.take_byte.Goals as goal

pub returns-then-byte-eq32 : goal.returns-then-byte-eq32
returns-then-byte-eq32 c = λ all now. (
  omega arith,
  words_space c.args.text.now c.args.run.start c.args.place c.args.run.alone _ _ all now.0 c.requires.room
      (byte_is c.args.byte _ 0x20 c.requires.there c.if-byte-eq32.true) now.1 c.in_ok-push_run.ensures,
)

pub returns-then-is_parenthesis : goal.returns-then-is_parenthesis
returns-then-is_parenthesis c = λ all now. (
  omega arith,
  words_parenthesis c.args.text.now c.args.run.start c.args.place c.args.run.alone _ _ all now.0 _ c.requires.room
      (byte_is_not c.args.byte _ 0x20 c.requires.there c.if-byte-eq32.false)
      (rw c.requires.there at (sym c.is_parenthesis.ensures ∙ c.if-is_parenthesis.true)) now.1
      c.in_ok-push_run-2.ensures c.in_ok-push_run-3.ensures,
)

pub returns : goal.returns
returns c = λ all now. (
  omega (arith, now.0),
  words_other c.args.text.now c.args.run.start c.args.place c.args.run.alone _ all all now.0 c.requires.room
      (byte_is_not c.args.byte _ 0x20 c.requires.there c.if-byte-eq32.false)
      (rw c.requires.there at (sym c.is_parenthesis.ensures ∙ c.if-is_parenthesis.false)) now.1,
)
