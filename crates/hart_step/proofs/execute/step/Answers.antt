use Rattle.std.proofs.Common.{arith}
use Rattle.std.proofs.lemmas.Grind.{common_steps}
use Rattle.cheri_model.specs.steps.HartStep.{hart_step, trapped}
use Rattle.cheri_model.proofs.Runs.RunsConfined.{left_confined}
use Rattle.hart_step.proofs.execute.step.Goals as goal

pub returns-in-Ok-clause-value : goal.returns-in-Ok-clause-value
unfolding hart_step trapped
returns-in-Ok-clause-value c = grind (arith, common_steps)

pub returns-in-Ok-clause-confined : goal.returns-in-Ok-clause-confined
returns-in-Ok-clause-confined c =
    left_confined c.args.program.now c.args.hart.now c.args.ram.now _ (returns-in-Ok-clause-value c) c.pcc.ensures.hart c.granule_count-granules.ensures.memory

pub returns-in-Err-clause-value : goal.returns-in-Err-clause-value
unfolding hart_step trapped
returns-in-Err-clause-value c = grind (arith, common_steps)

pub returns-in-Err-clause-confined : goal.returns-in-Err-clause-confined
returns-in-Err-clause-confined c =
    left_confined c.args.program.now c.args.hart.now c.args.ram.now _ (returns-in-Err-clause-value c) c.pcc.ensures.hart c.granule_count-granules.ensures.memory
