-- no end of a statement so far
use Rattle.std.proofs.Common.{◌≡◌, ◌-◌, drop, length, map}
use Rattle.asm_tokens.specs.Tokens.{token_parts}
use Rattle.asm_statements.specs.Statements.{after_end, next_at}
use Rattle.asm_statements.proofs.reading.next_at.Given as goal

abbrev pub invariant-loop-next : goal.invariant-loop-next
invariant-loop-next l = after_end l.next (drop l.next (map token_parts l.tokens)) ≡ next_at (map token_parts l.tokens) l.at

abbrev pub decreases-loop-next : goal.decreases-loop-next
decreases-loop-next l = length l.tokens - l.next
