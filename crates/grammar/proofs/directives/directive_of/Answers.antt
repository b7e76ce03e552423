use Rattle.std.proofs.Common.{◌∙◌, sym}
use Rattle.grammar.specs.Directives.{directive_of}
use Rattle.grammar.proofs.DirectiveLemmas.{no_directive}
use Rattle.grammar.proofs.directives.directive_of.Goals as goal

pub returns-then-not-has_point : goal.returns-then-not-has_point
returns-then-not-has_point c = no_directive c.args.token.now (sym c.has_point.ensures ∙ c.if-not-has_point.true)

pub returns : goal.returns
unfolding directive_of
returns c = c.found_at.ensures
