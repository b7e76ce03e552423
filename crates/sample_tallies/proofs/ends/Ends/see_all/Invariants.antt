-- the ends so far and those that are left
use Rattle.std.proofs.Common.{◌≡◌, drop, length}
use Rattle.sample_tallies.specs.Tables.{with_entries}
use Rattle.sample_tallies.specs.SameStates.{same_state}
use Rattle.sample_tallies.proofs.ends.Ends.see_all.Given as goal

abbrev pub invariant-loop-number : goal.invariant-loop-number
invariant-loop-number l = record {
  table : with_entries same_state l.self.table (drop l.number l.others.table)
      ≡ with_entries same_state l.fn.self.table l.others.table;
  harts : l.self.harts ≡ l.fn.self.harts;
  granules : l.self.granules ≡ l.fn.self.granules;
  opening : l.self.opening ≡ l.fn.self.opening;
  blank_harts : length l.blank.harts ≡ l.fn.self.harts;
  blank_granules : length l.blank.memory ≡ l.fn.self.granules;
}
