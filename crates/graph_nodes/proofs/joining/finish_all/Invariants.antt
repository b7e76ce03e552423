use Rattle.std.proofs.Common.{List, vec_len}
use Rattle.graph_nodes.specs.Joining.{AreBegun}
use Rattle.graph_nodes.specs.declared.tasks.Task.{Task}
use Rattle.graph_nodes.proofs.BatchLemmas.{AreLeft}
use Rattle.graph_nodes.proofs.joining.finish_all.Given as goal

-- the first tasks are done
abbrev pub invariant-loop-task : goal.invariant-loop-task
invariant-loop-task g l = (tasks : List Task) → AreBegun g.C.Crew.is_of l.fn.begun.items tasks →
    AreLeft g.C.Crew.is_of tasks l.begun.items l.tasks.items l.whole

abbrev pub decreases-loop-task : goal.decreases-loop-task
decreases-loop-task g l = vec_len l.begun
