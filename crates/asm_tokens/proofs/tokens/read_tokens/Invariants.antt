use Rattle.std.proofs.Common.{◌≡◌, ◌≤◌, ◌+◌, length, map}
use Rattle.asm_tokens.specs.Tokens.{with_front, tokens_from, tokens_of, token_parts}
use Rattle.asm_tokens.proofs.tokens.read_tokens.Given as goal

-- the tokens so far, and then those of what is left
abbrev pub invariant-loop-rest : goal.invariant-loop-rest
invariant-loop-rest l = record {
  line : l.cursor.place.line + length l.cursor.rest.now ≤ length l.text + 1;
  column : l.cursor.place.column + length l.cursor.rest.now ≤ length l.text + 1;
  tokens : with_front (map token_parts l.tokens.items) (tokens_from 0 l.cursor.place l.cursor.opens l.cursor.rest.now) ≡ tokens_of l.text;
}

abbrev pub decreases-loop-rest : goal.decreases-loop-rest
decreases-loop-rest l = length l.cursor.rest.now
