-- the values so far are swept
use Rattle.std.proofs.Common.{◌≡◌, List, length}
use Rattle.std.specs.Prelude.{Some, slice_get}
use Rattle.cap_model.specs.results.Swept.{swept}
use Rattle.cap_model.specs.values.CapValue.{CapValue}
use Rattle.state_store.specs.Numbered.{each}
use Rattle.state_store.specs.Stores.{Keeps}
use Rattle.states.proofs.RowLemmas.{partly}
use Rattle.states.proofs.sweeping.sweep_row.Given as goal

abbrev pub invariant-loop-place : goal.invariant-loop-place
invariant-loop-place l = record {
  kept : Keeps l.fn.store l.store;
  same_harts : l.store.harts ≡ l.fn.store.harts;
  size : length l.row ≡ length l.fn.row;
  swept : (m : List CapValue) → each (slice_get l.fn.store.values) l.fn.row ≡ Some m →
      each (slice_get l.store.values) l.row ≡ Some (partly (swept l.range.lo l.range.hi) l.place m);
}
