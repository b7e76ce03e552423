use Rattle.std.proofs.Common.{◌≡◌, ℕ, ◌<◌, length}
use Rattle.graph_nodes.specs.Parts.{Grows}
use Rattle.graph_nodes.specs.Tasks.{IsFound, task_row}
use Rattle.graph_nodes.proofs.tasks.Task.take_in.Given as goal

-- the first rows were taken in
abbrev pub invariant-loop-k : goal.invariant-loop-k
invariant-loop-k l = record {
  ending : l.k-end ≡ l.fn.self.count;
  wide : l.width ≡ l.fn.self.part.kept.width;
  same_rows : l.self.rows ≡ l.fn.self.rows;
  places : length l.self.places.items ≡ l.k;
  grows : Grows l.fn.self.part l.self.part;
  found : (k : ℕ) → k < l.k → IsFound l.self k (task_row l.fn.self k);
}
