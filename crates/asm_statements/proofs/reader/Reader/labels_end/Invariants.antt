-- the labels that are left
use Rattle.std.proofs.Common.{◌≡◌, ◌-◌, ◌≤◌, length}
use Rattle.asm_statements.specs.Marks.{source}
use Rattle.asm_statements.specs.Statements.{labels_up_to, labels_end}
use Rattle.asm_statements.proofs.reader.Reader.labels_end.Given as goal

abbrev pub invariant-loop : goal.invariant-loop
invariant-loop l = record {
  labels : labels_up_to (length (source l.self) - l.counter) (source l.self) l.next ≡ labels_end (source l.self) l.at;
  room : l.next ≤ length l.self.tokens.now;
  after : l.at ≤ l.next;
}
