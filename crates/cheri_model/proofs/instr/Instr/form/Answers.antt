use Rattle.std.proofs.Common.{arith}
use Rattle.std.proofs.lemmas.Grind.{common_steps}
use Rattle.cheri_model.specs.instructions.Form.{form_of}
use Rattle.cheri_model.proofs.instr.Instr.form.Goals as goal

pub returns-in-CSetBoundsExact : goal.returns-in-CSetBoundsExact
unfolding form_of
returns-in-CSetBoundsExact c = grind (arith, common_steps)
