use Rattle.own_granules.proofs.OwnLemmas.{own_merging, own_most, own_steps}
use Rattle.own_granules.proofs.laws.respecting_rests_merge_steps.Goals as goal

pub returns : goal.returns
returns c image sweeps shared owner hides most = (
  own_steps image sweeps shared owner hides most,
  own_merging image sweeps shared owner hides most,
  own_most image sweeps shared owner hides most,
)
