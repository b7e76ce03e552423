-- Tasks that were begun.
use Rattle.std.specs.Prelude.{◌≡◌}
use Rattle.graph_nodes.specs.Tasks.{IsDone}
use Rattle.graph_nodes.specs.declared.tasks.Task.{Task}
use Rattle.graph_nodes.specs.declared.crew.Begun.{Begun}
use Rattle.graph_nodes.specs.declared.crew.Begun.TheVariants.{Here, There}

-- the task was begun: it is done already, or a thread promised it
abbrev pub IsBegun : Begun → Task → Type 0
IsBegun (Here done) task = IsDone task done
IsBegun (There handle) task = handle.promise.0.value ≡ task
