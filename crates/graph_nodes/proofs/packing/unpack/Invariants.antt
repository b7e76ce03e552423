use Rattle.std.proofs.Common.{◌≡◌, ◌+◌, ◌-◌, ◌<◌, ◌++◌, drop, length}
use Rattle.graph_nodes.specs.Packing.{unpacked}
use Rattle.graph_nodes.proofs.packing.unpack.Given as goal

abbrev pub invariant-loop-place : goal.invariant-loop-place
invariant-loop-place l = record {
  below : l.place < length l.row;
  same_room : length l.row ≡ length l.fn.row;
  written : unpacked l.bits l.place l.rest ++ drop (l.place + 1) l.row ≡ unpacked l.bits (length l.fn.row - 1) l.fn.word;
}

abbrev pub decreases-loop-place : goal.decreases-loop-place
decreases-loop-place l = l.place
