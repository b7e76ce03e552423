-- none of those that were looked at
use Rattle.std.proofs.Common.{◌≡◌, map}
use Rattle.asm_tokens.specs.Tokens.{token_parts}
use Rattle.asm_links.specs.Locals.{last_before}
use Rattle.asm_links.proofs.locals.last_before.Given as goal

abbrev pub invariant-loop-at : goal.invariant-loop-at
invariant-loop-at l =
    last_before (map token_parts l.tokens) l.digits l.locals l.at ≡ last_before (map token_parts l.tokens) l.digits l.locals l.count

abbrev pub decreases-loop-at : goal.decreases-loop-at
decreases-loop-at l = l.at
