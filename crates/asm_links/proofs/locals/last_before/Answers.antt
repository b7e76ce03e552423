use Rattle.std.proofs.Common.{map, sym, ◌∙◌}
use Rattle.asm_tokens.specs.Tokens.{token_parts}
use Rattle.asm_links.proofs.LocalLemmas.{last_found, last_other, last_none}
use Rattle.asm_links.proofs.locals.last_before.Goals as goal

pub returns-then-is_some : goal.returns-then-is_some
returns-then-is_some c =
    last_found (map token_parts c.args.tokens.now) c.args.digits.now c.args.locals.now c.loop-at.at _ _ c.loop-at-test.true c.label_at-found.ensures c.loop-at.invariant
    (sym c.is_some.ensures ∙ c.if-is_some.true)

pub loop-at-preserved : goal.loop-at-preserved
loop-at-preserved c =
    last_other (map token_parts c.args.tokens.now) c.args.digits.now c.args.locals.now c.loop-at.at _ _ c.loop-at-test.true c.label_at-found.ensures c.loop-at.invariant
    (sym c.is_some.ensures ∙ c.if-is_some.false)

pub returns : goal.returns
returns c = last_none (map token_parts c.args.tokens.now) c.args.digits.now c.args.locals.now c.loop-at.at _ c.loop-at-test.false c.loop-at.invariant
