use Rattle.std.proofs.Common.{arith}
use Rattle.std.proofs.lemmas.Grind.{common_steps}
use Rattle.cheri_model.specs.steps.Actions.{action}
use Rattle.cheri_model.specs.instructions.Form.{three_instr}
use Rattle.instructions.proofs.actions.registers.three_action.Goals as goal

pub returns-in-Slt : goal.returns-in-Slt
unfolding action three_instr
returns-in-Slt c = grind (arith, common_steps)

pub returns-in-Sltu : goal.returns-in-Sltu
unfolding action three_instr
returns-in-Sltu c = grind (arith, common_steps)
