use Rattle.graph_merging.proofs.MergingLemmas.{kept_reachable, found_reachable}
use Rattle.graph_merging.proofs.laws.merged_states_are_reached.Goals as goal

pub returns-clause-sound : goal.returns-clause-sound
returns-clause-sound g c next actors fits merge to_go h = kept_reachable next actors fits merge to_go h

pub returns-clause-complete : goal.returns-clause-complete
returns-clause-complete g c next actors fits merge to_go h = found_reachable next actors fits merge to_go h
