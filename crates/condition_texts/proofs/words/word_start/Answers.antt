use Rattle.std.proofs.Common.{arith}
use Rattle.condition_texts.proofs.StartLemmas.{start_here, start_next, start_end}
use Rattle.condition_texts.proofs.words.word_start.Goals as goal

pub returns-then-left-eq0 : goal.returns-then-left-eq0
returns-then-left-eq0 c = start_here c.args.separator c.loop-place.left c.loop-place.place _ c.args.text.now c.if-left-eq0.true c.loop-place.invariant

pub loop-place-preserved : goal.loop-place-preserved
loop-place-preserved c =
    rw c.left_after-left.ensures
    (start_next c.args.separator c.loop-place.left c.loop-place.place _ c.args.text.now (omega arith) c.loop-place-test.true c.loop-place.invariant)

pub returns : goal.returns
returns c = start_end c.args.separator c.loop-place.left c.loop-place.place _ c.args.text.now c.loop-place-test.false (omega arith) c.loop-place.invariant
