-- Rows that a part of the nodes takes in.
use Rattle.std.specs.Prelude.{◌≡◌, ℕ, ◌*◌, ◌<◌, List, [], length, slice_get, Some, false}
use Rattle.interner.specs.Rows.{IsDistinct, row_at}
use Rattle.graph_nodes.specs.Parts.{Grows, IsAt}
use Rattle.graph_nodes.specs.declared.tasks.Task.{Task}

-- There are as many rows as the count says.
pub record IsReady (task : Task) : Type 0 where
  pub whole : length task.rows.items ≡ task.count * task.part.kept.width
  pub distinct : IsDistinct task.part.kept

-- row k of a task
abbrev pub task_row : Task → ℕ → List ℕ
task_row task k = row_at task.part.kept.width task.rows.items k

-- Row k of a task is this one.
pub record IsSent (task : Task) (k : ℕ) (row : List ℕ) : Type 0 where
  pub below : k < task.count
  pub same : task_row task k ≡ row

-- The place that is noted for row k is that of this row.
pub record IsFound (done : Task) (k : ℕ) (row : List ℕ) : Type 0 where
  pub place : ℕ
  pub noted : slice_get done.places.items k ≡ Some place
  pub at : IsAt done.part place row

-- All rows of the task were taken in, and no rows are left.
pub record AreFound (task done : Task) : Type 0 where
  pub each : (k : ℕ) → k < task.count → IsFound done k (task_row task k)
  pub none_left : done.rows.items ≡ []
  pub no_count : done.count ≡ 0

-- A task was done: its rows were taken in, unless memory ran out.
pub record IsDone (task done : Task) : Type 0 where
  pub grows : Grows task.part done.part
  pub found : done.failed ≡ false → AreFound task done

-- The rows of a task were taken in.
pub record IsTakenIn (task done : Task) : Type 0 where
  pub grows : Grows task.part done.part
  pub found : AreFound task done
