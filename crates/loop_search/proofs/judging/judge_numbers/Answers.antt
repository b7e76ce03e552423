use Rattle.std.proofs.Common.{length}
use Rattle.graph_search.specs.Trees.{state_at}
use Rattle.loop_search.proofs.VerdictLemmas.{meant_all, distinct_at}
use Rattle.loop_search.proofs.judging.judge_numbers.Goals as goal

pub judge_loops-requires-clause-meant : goal.judge_loops-requires-clause-meant
judge_loops-requires-clause-meant g c =
    meant_all (state_at (g.G.Graph.meaning c.args.graph.now) c.args.found.now.nodes) (length c.args.found.now.nodes)
    c.requires.meant

pub judge_loops-requires-clause-distinct : goal.judge_loops-requires-clause-distinct
judge_loops-requires-clause-distinct g c =
    distinct_at (state_at (g.G.Graph.meaning c.args.graph.now) c.args.found.now.nodes) c.requires.distinct
