use Rattle.std.proofs.Common.{◌≡◌, List, map, subst}
use Rattle.std.specs.Prelude.{IfOk}
use Rattle.sample_tallies.specs.declared.seen.TrapPlace.{TrapPlace}
use Rattle.sample_tallies.specs.Tables.{Entry, in_order}
use Rattle.sample_tallies.specs.Sums.{is_later_trap, traps_in_order}
use Rattle.sample_tallies.specs.Counts.{Counted, entry_of}
use Rattle.sample_tallies.proofs.tally.Tally.traps.Goals as goal

pub returns : goal.returns
unfolding traps_in_order
returns c =
    subst (λ (v : Counted). IfOk c.sorted_traps.result (λ traps. map entry_of traps.items ≡ traps_in_order v.sum))
    c.self.view_is
    (subst (λ (t : List (Entry TrapPlace)). IfOk c.sorted_traps.result (λ traps. map entry_of traps.items
    ≡ in_order is_later_trap t)) c.all.ensures c.sorted_traps.ensures)
