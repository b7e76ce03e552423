use Rattle.std.proofs.Common.{◌∙◌, ap}
use Rattle.grammar.specs.Tokens.{before_end}
use Rattle.grammar.proofs.FirstToken.{first_token_of}
use Rattle.grammar.proofs.tokens.first_token.Goals as goal

pub returns : goal.returns
returns c = c.before_end.ensures ∙ ap before_end c.after_blanks.ensures ∙ first_token_of c.args.line.now
