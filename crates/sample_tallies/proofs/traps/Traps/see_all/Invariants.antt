-- the traps so far and those that are left
use Rattle.std.proofs.Common.{◌≡◌, drop, map}
use Rattle.sample_tallies.specs.Tables.{with_entries}
use Rattle.sample_tallies.specs.SameStates.{same_place}
use Rattle.sample_tallies.specs.Counts.{entry_of}
use Rattle.sample_tallies.proofs.traps.Traps.see_all.Given as goal

abbrev pub invariant-loop-number : goal.invariant-loop-number
invariant-loop-number l =
    with_entries same_place l.self (map entry_of (drop l.number l.traps))
    ≡ with_entries same_place l.fn.self l.others
