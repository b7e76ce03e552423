-- the traps so far and those of the harts that are left
use Rattle.std.proofs.Common.{◌≡◌, drop}
use Rattle.sample_tallies.specs.Tables.{with_entries}
use Rattle.sample_tallies.specs.SameStates.{same_place}
use Rattle.sample_tallies.specs.Tallies.{traps_from}
use Rattle.sample_tallies.proofs.traps.Traps.see_harts.Given as goal

abbrev pub invariant-loop-number : goal.invariant-loop-number
invariant-loop-number l =
    with_entries same_place l.self (traps_from l.number (drop l.number l.harts) l.seen)
    ≡ with_entries same_place l.fn.self (traps_from 0 l.harts l.seen)
