-- How many harts are between the addresses so far.
use Rattle.std.proofs.Common.{◌≡◌, ◌≤◌}
use Rattle.cap_model.specs.results.Addresses.{address_of}
use Rattle.cheri_model.specs.runs.Machine.{hart_at}
use Rattle.conditions.specs.Holding.{how_many}
use Rattle.conditions.specs.Values.{is_between}
use Rattle.conditions.proofs.holding.how_many_between.Given as goal

abbrev pub invariant-loop-hart : goal.invariant-loop-hart
invariant-loop-hart g l =
    (l.count ≤ l.hart)
    × (l.count ≡ how_many (λ hart. is_between l.first l.second (address_of (hart_at (g.V.StateView.state l.view) hart).pcc)) l.hart)
