use Rattle.std.proofs.Common.{refl}
use Rattle.graph_loops.specs.Loops.{AreMeant}
use Rattle.loop_search.specs.Verdicts.{AreDistinct}
use Rattle.graph_tests.proofs.loops.find.Goals as goal

pub search_loops-requires-clause-meant : goal.search_loops-requires-clause-meant
unfolding AreMeant
search_loops-requires-clause-meant c = (c.in_ok-found.ensures.explored 0 refl).meant

pub search_loops-requires-clause-distinct : goal.search_loops-requires-clause-distinct
unfolding AreDistinct
search_loops-requires-clause-distinct c = (c.in_ok-found.ensures.explored 0 refl).distinct
