use Rattle.cheri_model.proofs.Runs.Sweeping.{stays_unreached}
use Rattle.cheri_model.proofs.laws.sweeps.unreached_addresses_stay_unreached.Goals as goal

pub returns : goal.returns
returns c = λ image state order address. stays_unreached address image state order
