use Rattle.cheri_model.proofs.Runs.RunsConfined.{run_lawful, run_monotone}
use Rattle.cheri_model.proofs.laws.runs.runs_are_confined.Goals as goal

pub returns-clause-lawful : goal.returns-clause-lawful
returns-clause-lawful c = λ image order lawful. (run_lawful image order lawful).0

pub returns-clause-confined : goal.returns-clause-confined
returns-clause-confined c = λ image order lawful. (run_lawful image order lawful).1

pub returns-clause-monotone : goal.returns-clause-monotone
returns-clause-monotone c = run_monotone
