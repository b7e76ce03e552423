use Rattle.graph_merging.proofs.MergingLemmas.{loops_kept, fair_kept}
use Rattle.graph_merging.proofs.laws.merged_loops_are_loops.Goals as goal

pub returns-clause-loops : goal.returns-clause-loops
returns-clause-loops g c next actors fits merge to_go h = loops_kept next actors fits merge to_go h

pub returns-clause-fair : goal.returns-clause-fair
returns-clause-fair g c next actors merge = fair_kept next actors merge
