use Rattle.explore_sights.proofs.WatchLemmas.{watches_keep}
use Rattle.explore_sights.proofs.laws.hidden_steps_keep_watches.Goals as goal

pub returns : goal.returns
returns c = watches_keep
