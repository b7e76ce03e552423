use Rattle.std.proofs.Common.{arith}
use Rattle.std.proofs.lemmas.Grind.{common_steps}
use Rattle.cap_model.specs.results.EditedWords.{word_with_upper}
use Rattle.cap_model.specs.results.Fields.{set_high}
use Rattle.cap_ops.proofs.cap.Cap.set_high.Goals as goal

pub returns : goal.returns
unfolding set_high word_with_upper
returns c = grind (arith, common_steps)
