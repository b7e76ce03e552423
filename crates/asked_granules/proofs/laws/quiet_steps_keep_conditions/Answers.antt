use Rattle.std.specs.Prelude.{slice_index_or, true}
use Rattle.asked_granules.proofs.StepLemmas.{step_keeps, sized_keeps}
use Rattle.asked_granules.proofs.laws.quiet_steps_keep_conditions.Goals as goal

pub returns-clause-steps : goal.returns-clause-steps
returns-clause-steps c = step_keeps

pub returns-clause-passing : goal.returns-clause-passing
returns-clause-passing c = sized_keeps

pub returns-clause-listed : goal.returns-clause-listed
returns-clause-listed c image shared nodes = sized_keeps image (λ granule. slice_index_or shared granule true) nodes
