use Rattle.std.proofs.Common.{◌≡◌, ℕ, length, Some}
use Rattle.std.specs.Prelude.{slice_get}
use Rattle.graph_nodes.specs.declared.tasks.Task.{Task}
use Rattle.graph_nodes.proofs.PartedLemmas.{IsEmpty}
use Rattle.graph_nodes.proofs.parted.Parted.new.Given as goal

abbrev pub invariant-loop : goal.invariant-loop
invariant-loop l = record {
  count : length l.tasks.items ≡ l.counter;
  each : (p : ℕ) (task : Task) → slice_get l.tasks.items p ≡ Some task → IsEmpty l.width task;
}
