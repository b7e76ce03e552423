use Rattle.cap_model.proofs.Results.ReasonTables.{told_holds}
use Rattle.cap_model.proofs.laws.results.told_reasons_hold.Goals as goal

pub returns : goal.returns
returns c = told_holds
