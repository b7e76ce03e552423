use Rattle.origins.proofs.Slots.{tells_opening, tells_step, tells_sweep}
use Rattle.origins.proofs.laws.tables_tell_origins.Goals as goal

pub returns-clause-opening : goal.returns-clause-opening
returns-clause-opening c = tells_opening

pub returns-clause-step : goal.returns-clause-step
returns-clause-step c = tells_step

pub returns-clause-sweep : goal.returns-clause-sweep
returns-clause-sweep c = tells_sweep
