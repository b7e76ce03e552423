use Rattle.asm_statements.proofs.LoopLemmas.{texts_turn, texts_past, texts_done}
use Rattle.asm_statements.proofs.section_names.push_texts.Goals as goal

pub returns-then-at-tokens : goal.returns-then-at-tokens
returns-then-at-tokens c = texts_past c.loop-at.out.items c.args.tokens.now c.loop-at.at c.args.end _ c.if-at-tokens.true c.loop-at.invariant

pub loop-at-preserved : goal.loop-at-preserved
loop-at-preserved c =
    texts_turn c.loop-at.out.items _ c.args.tokens.now c.loop-at.at c.args.end _ _ c.if-at-tokens.false c.loop-at-test.true c.in_ok-extend_from_slice.ensures.items c.loop-at.invariant

pub returns : goal.returns
returns c = texts_done c.loop-at.out.items _ c.loop-at.at c.args.end _ c.loop-at-test.false c.loop-at.invariant
