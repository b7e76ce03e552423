-- none of those that were looked at
use Rattle.std.proofs.Common.{◌≡◌, ◌-◌, drop, length, map}
use Rattle.asm_tokens.specs.Tokens.{token_parts}
use Rattle.asm_links.specs.Locals.{first_in}
use Rattle.asm_links.proofs.locals.first_from.Given as goal

abbrev pub invariant-loop-at : goal.invariant-loop-at
invariant-loop-at l =
    first_in (map token_parts l.tokens) l.digits (drop l.at l.locals) ≡ first_in (map token_parts l.tokens) l.digits (drop l.count l.locals)

abbrev pub decreases-loop-at : goal.decreases-loop-at
decreases-loop-at l = length l.locals - l.at
