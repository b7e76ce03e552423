use Rattle.std.proofs.Common.{ℕ, length, sym, ap, ◌∙◌, arith}
use Rattle.asm_statements.specs.Marks.{source}
use Rattle.asm_statements.specs.Statements.{labels_up_to, labels_end}
use Rattle.asm_statements.proofs.LoopLemmas.{counted, uncounted, labels_done, labels_turn, labels_past}
use Rattle.asm_statements.proofs.reader.Reader.labels_end.Goals as goal

pub loop-init : goal.loop-init
unfolding labels_end
loop-init c = record {
  labels = ap (λ (k : ℕ). labels_up_to k (source c.args.self.now) c.args.at) (omega arith);
  room = c.requires;
  after = omega arith;
}

pub returns-then-not-is_label-clause-is : goal.returns-then-not-is_label-clause-is
returns-then-not-is_label-clause-is c =
    labels_done _ (source c.args.self.now) c.loop.next _ (sym c.is_label.ensures.is ∙ c.if-not-is_label.true) c.loop.invariant.labels

pub loop-preserved : goal.loop-preserved
loop-preserved c = record {
  labels = labels_turn (length (source c.args.self.now)) c.loop.counter (source c.args.self.now) c.loop.next _ (counted c.args.self.now.tokens.now c.loop.counter c.loop-test.true)
      (sym c.is_label.ensures.is ∙ c.if-not-is_label.false) c.loop.invariant.labels;
  room = omega (arith, c.is_label.ensures.room c.if-not-is_label.false);
  after = omega (arith, c.loop.invariant.after);
}

pub returns-clause-is : goal.returns-clause-is
returns-clause-is c =
    labels_past (length (source c.args.self.now)) c.loop.counter (source c.args.self.now) c.loop.next _ (uncounted c.args.self.now.tokens.now c.loop.counter c.loop-test.false) c.loop.invariant.labels
