-- How many harts it is so of so far.
use Rattle.std.proofs.Common.{◌≡◌, ◌≤◌}
use Rattle.conditions.specs.Holding.{how_many}
use Rattle.conditions.specs.Values.{atom_holds}
use Rattle.conditions.proofs.holding.how_many_hold.Given as goal

abbrev pub invariant-loop-hart : goal.invariant-loop-hart
invariant-loop-hart g l =
    (l.count ≤ l.hart) × (l.count ≡ how_many (λ hart. atom_holds (g.V.StateView.state l.view) hart l.atom) l.hart)
