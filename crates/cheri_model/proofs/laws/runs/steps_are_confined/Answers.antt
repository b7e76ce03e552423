use Rattle.cheri_model.proofs.Runs.RunsConfined.{step_confined}
use Rattle.cheri_model.proofs.laws.runs.steps_are_confined.Goals as goal

pub returns : goal.returns
returns c = step_confined
