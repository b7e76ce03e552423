use Rattle.schedules.proofs.WalkLemmas.{next_beyond}
use Rattle.schedules.proofs.laws.labels_are_harts_and_sweeps.Goals as goal

pub returns : goal.returns
returns c = next_beyond
