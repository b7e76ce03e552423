use Rattle.std.proofs.Common.{ℕ, length, sym, ap, ◌∙◌, arith}
use Rattle.asm_statements.specs.Marks.{source}
use Rattle.asm_statements.specs.Sections.{words_up_to, words_after}
use Rattle.asm_statements.proofs.LoopLemmas.{counted, uncounted, words_end, words_turn, words_fault, words_past}
use Rattle.asm_statements.proofs.reader.Reader.more_words.Goals as goal

pub loop-init : goal.loop-init
unfolding words_after
loop-init c = record {
  words = ap (λ (k : ℕ). words_up_to k (source c.args.self.now) c.args.at) (omega arith);
  room = c.requires;
}

pub returns-then-not-is_comma-clause-is : goal.returns-then-not-is_comma-clause-is
returns-then-not-is_comma-clause-is c =
    words_end _ (source c.args.self.now) c.loop.next _ (sym c.is_comma.ensures.is ∙ c.if-not-is_comma.true) c.loop.invariant.words

pub returns-in-Err-clause-is : goal.returns-in-Err-clause-is
returns-in-Err-clause-is c =
    words_fault (length (source c.args.self.now)) c.loop.counter (source c.args.self.now) c.loop.next c.in-Err.fault _ (counted c.args.self.now.tokens.now c.loop.counter c.loop-test.true)
    (sym c.is_comma.ensures.is ∙ c.if-not-is_comma.false) (sym c.in-Err.ensures.is) c.loop.invariant.words

pub loop-preserved : goal.loop-preserved
loop-preserved c = record {
  words = words_turn (length (source c.args.self.now)) c.loop.counter (source c.args.self.now) c.loop.next c.in-Ok.after _ (counted c.args.self.now.tokens.now c.loop.counter c.loop-test.true)
      (sym c.is_comma.ensures.is ∙ c.if-not-is_comma.false) (sym c.in-Ok.ensures.is) c.loop.invariant.words;
  room = c.in-Ok.ensures.room;
}

pub returns-clause-is : goal.returns-clause-is
returns-clause-is c =
    words_past (length (source c.args.self.now)) c.loop.counter (source c.args.self.now) c.loop.next _ (uncounted c.args.self.now.tokens.now c.loop.counter c.loop-test.false) c.loop.invariant.words
