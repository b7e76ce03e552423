use Rattle.std.proofs.Common.{◌≡◌, map, subst}
use Rattle.std.specs.Prelude.{IfOk, Some, slice_get}
use Rattle.cheri_model.specs.runs.Machine.{MachineState}
use Rattle.sample_tallies.specs.Tables.{Entry}
use Rattle.sample_tallies.specs.Sums.{ends_in_order}
use Rattle.sample_tallies.specs.Counts.{Counted}
use Rattle.sample_tallies.proofs.tally.Tally.order.Goals as goal

pub returns-clause-sorted : goal.returns-clause-sorted
unfolding ends_in_order
returns-clause-sorted c =
    subst (λ (v : Counted). IfOk c.sorted_ends.result (λ order. map (slice_get v.sum.ends) order.items
    ≡ map (λ (end : Entry MachineState). Some end) (ends_in_order v.sum))) c.self.view_is c.sorted_ends.ensures.sorted
