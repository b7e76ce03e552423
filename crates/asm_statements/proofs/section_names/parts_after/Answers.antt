use Rattle.std.proofs.Common.{sym, ◌∙◌, arith}
use Rattle.asm_tokens.specs.Tokens.{token_parts}
use Rattle.asm_statements.proofs.LoopLemmas.{parts_done, parts_turn, parts_past}
use Rattle.asm_statements.proofs.section_names.parts_after.Goals as goal

pub returns-then-not-goes_on-clause-is : goal.returns-then-not-goes_on-clause-is
returns-then-not-goes_on-clause-is c =
    parts_done (token_parts c.loop-at.before) c.args.tokens.now c.args.start c.loop-at.at _ _ c.loop-at-test.true (sym c.goes_on.ensures ∙ c.if-not-goes_on.true)
    c.loop-at.invariant.from c.loop-at.invariant.parts

pub loop-at-preserved : goal.loop-at-preserved
loop-at-preserved c = record {
  parts = parts_turn (token_parts c.loop-at.before) c.args.tokens.now c.args.start c.loop-at.at _ _ c.loop-at-test.true (sym c.goes_on.ensures ∙ c.if-not-goes_on.false)
      c.loop-at.invariant.from c.loop-at.invariant.parts;
  room = omega (arith, c.loop-at-test.true);
  from = omega (arith, c.loop-at.invariant.from);
}

pub returns-clause-is : goal.returns-clause-is
returns-clause-is c =
    parts_past (token_parts c.loop-at.before) c.args.tokens.now c.args.start c.loop-at.at _ c.loop-at-test.false c.loop-at.invariant.parts
