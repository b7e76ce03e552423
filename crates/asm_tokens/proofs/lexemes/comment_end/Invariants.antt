use Rattle.std.proofs.Common.{◌≡◌, ◌≤◌, ◌-◌, length}
use Rattle.asm_tokens.specs.Lexemes.{comment_end}
use Rattle.asm_tokens.proofs.CommentLemmas.{further_on}
use Rattle.asm_tokens.proofs.lexemes.comment_end.Given as goal

-- the end that is found in what is left is that of the text, further on
abbrev pub invariant-loop-rest : goal.invariant-loop-rest
invariant-loop-rest l = record {
  within : length l.rest ≤ length l.text;
  end : further_on (length l.text - length l.rest) (comment_end l.rest) ≡ comment_end l.text;
}

abbrev pub decreases-loop-rest : goal.decreases-loop-rest
decreases-loop-rest l = length l.rest
