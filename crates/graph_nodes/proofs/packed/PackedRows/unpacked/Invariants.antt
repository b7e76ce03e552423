use Rattle.std.proofs.Common.{◌≡◌, length, take}
use Rattle.graph_nodes.proofs.packed.PackedRows.unpacked.Given as goal

abbrev pub invariant-loop-number : goal.invariant-loop-number
invariant-loop-number l = record {
  ending : l.number-end ≡ length l.self.rows;
  wide : l.wide.width ≡ l.self.width;
  room : length l.row.items ≡ l.self.width;
  rows : l.wide.rows ≡ take l.number l.self.rows;
}
