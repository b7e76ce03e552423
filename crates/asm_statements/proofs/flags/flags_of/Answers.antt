use Rattle.asm_statements.proofs.LoopLemmas.{next_letter, last_letter}
use Rattle.asm_statements.proofs.flags.flags_of.Goals as goal

pub loop-letter-preserved : goal.loop-letter-preserved
loop-letter-preserved c =
    next_letter c.loop-letter.flags c.with_letter-flags.result c.args.letters.now c.loop-letter.letter-index _ _ c.loop-letter-test.true c.with_letter-flags.ensures c.loop-letter.invariant

pub returns : goal.returns
returns c = last_letter c.loop-letter.flags c.args.letters.now c.loop-letter.letter-index _ c.loop-letter-test.false c.loop-letter.invariant
