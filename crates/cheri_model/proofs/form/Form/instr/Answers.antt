use Rattle.std.proofs.Common.{arith}
use Rattle.std.proofs.lemmas.Grind.{common_steps}
use Rattle.cheri_model.specs.instructions.Form.{instr_of}
use Rattle.cheri_model.proofs.form.Form.instr.Goals as goal

pub returns-in-Store : goal.returns-in-Store
unfolding instr_of
returns-in-Store c = grind (arith, common_steps)
