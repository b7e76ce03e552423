use Rattle.std.proofs.Common.{arith}
use Rattle.std.proofs.lemmas.Grind.{common_steps}
use Rattle.grammar.specs.Forms.{swap_form}
use Rattle.grammar.proofs.forms.swap_form.Goals as goal

pub returns : goal.returns
unfolding swap_form
returns c = grind (arith, common_steps)
