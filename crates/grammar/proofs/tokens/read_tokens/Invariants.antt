use Rattle.std.proofs.Common.{◌≡◌, ◌++◌, length}
use Rattle.grammar.specs.Tokens.{tokens_of, texts}
use Rattle.grammar.proofs.tokens.read_tokens.Given as goal

-- the tokens so far, and then those of what is left
abbrev pub invariant-loop-start : goal.invariant-loop-start
invariant-loop-start l = texts l.tokens.items ++ tokens_of l.rest ≡ tokens_of l.line

abbrev pub decreases-loop-start : goal.decreases-loop-start
decreases-loop-start l = length l.rest
