-- the rest of the expression is read from here on
use Rattle.std.proofs.Common.{◌≡◌, ◌-◌, ◌≤◌, length, drop, map}
use Rattle.asm_tokens.specs.Tokens.{token_parts}
use Rattle.asm_expressions.specs.Drafts.{pending_of}
use Rattle.asm_expressions.specs.Expressions.{rest_of, expression_at}
use Rattle.asm_expressions.proofs.reading.read_nodes.Given as goal

abbrev pub invariant-loop-next : goal.invariant-loop-next
invariant-loop-next l = record {
  rest : rest_of (pending_of l.draft) l.next (drop l.next (map token_parts l.tokens)) ≡ expression_at (map token_parts l.tokens) l.at;
  depth : l.draft.depth ≤ l.next;
}

abbrev pub decreases-loop-next : goal.decreases-loop-next
decreases-loop-next l = length l.tokens - l.next
