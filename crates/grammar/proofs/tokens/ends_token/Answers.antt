use Rattle.std.proofs.Common.{arith}
use Rattle.std.proofs.lemmas.Grind.{common_steps}
use Rattle.grammar.specs.Tokens.{ends_token}
use Rattle.grammar.proofs.tokens.ends_token.Goals as goal

pub returns-else-is_blank : goal.returns-else-is_blank
unfolding ends_token
returns-else-is_blank c = grind (arith, common_steps)
