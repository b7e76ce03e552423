-- the row so far is that of the memory and of the harts so far
use Rattle.std.proofs.Common.{◌≡◌, List, take}
use Rattle.std.specs.Prelude.{Some}
use Rattle.cap_model.specs.values.CapValue.{CapValue}
use Rattle.state_store.specs.Stores.{state_of, memory_at, Keeps}
use Rattle.sample_tallies.proofs.ends.put_row.Given as goal

abbrev pub invariant-loop-hart : goal.invariant-loop-hart
invariant-loop-hart l = record {
  kept : Keeps l.fn.numbering.store l.numbering.store;
  opening : l.numbering.opening ≡ l.fn.numbering.opening;
  row : (m : List CapValue) → memory_at l.fn.numbering.store l.memory ≡ Some m →
      state_of l.numbering.store l.row.items ≡ Some (record { harts = take l.hart-index l.harts; memory = m });
}
