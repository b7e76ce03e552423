use Rattle.std.proofs.Common.{arith}
use Rattle.std.proofs.lemmas.Grind.{common_steps}
use Rattle.cheri_model.specs.instructions.Form.{three_instr}
use Rattle.cheri_model.proofs.form.ThreeOp.instr.Goals as goal

pub returns-in-Sub : goal.returns-in-Sub
unfolding three_instr
returns-in-Sub c = grind (arith, common_steps)
