use Rattle.std.proofs.Common.{refl}
use Rattle.graph_tests.proofs.loops.judge.Goals as goal

pub judge_loops-requires-clause-meant : goal.judge_loops-requires-clause-meant
judge_loops-requires-clause-meant c = (c.in_ok-found.ensures.explored 0 refl).meant
