use Rattle.graph_merging.proofs.MergingLemmas.{loops_found, fair_found}
use Rattle.graph_merging.proofs.laws.loops_are_merged_loops.Goals as goal

pub returns-clause-loops : goal.returns-clause-loops
returns-clause-loops g c next actors fits merge to_go h = loops_found next actors fits merge to_go h

pub returns-clause-fair : goal.returns-clause-fair
returns-clause-fair g c next actors fits merge to_go h = fair_found next actors fits merge to_go h
