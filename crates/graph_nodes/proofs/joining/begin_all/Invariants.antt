use Rattle.std.proofs.Common.{◌≡◌, ℕ, List, ◌++◌, Some, vec_len}
use Rattle.std.specs.Prelude.{slice_get}
use Rattle.graph_nodes.specs.Tasks.{IsReady}
use Rattle.graph_nodes.specs.Joining.{AreBegun}
use Rattle.graph_nodes.specs.declared.tasks.Task.{Task}
use Rattle.graph_nodes.proofs.joining.begin_all.Given as goal

-- the last tasks were begun
abbrev pub invariant-loop-task : goal.invariant-loop-task
invariant-loop-task g l = record {
  ready : (p : ℕ) (task : Task) → slice_get l.tasks.items p ≡ Some task → IsReady task;
  begun : (rest : List Task) × (l.tasks.items ++ rest ≡ l.fn.tasks.items) × AreBegun g.C.Crew.is_of l.begun.items rest;
}

abbrev pub decreases-loop-task : goal.decreases-loop-task
decreases-loop-task g l = vec_len l.tasks
