use Rattle.graph_merging.proofs.CountLemmas.{walks_bounded}
use Rattle.graph_merging.proofs.laws.merged_walks_bound_walks.Goals as goal

pub returns : goal.returns
returns g c next actors fits merge to_go most count h few =
    walks_bounded next actors fits merge to_go h most few count
