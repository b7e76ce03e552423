-- the values so far are those of the items so far
use Rattle.std.proofs.Common.{◌≡◌, map, take}
use Rattle.outcomes.specs.Items.{value_of}
use Rattle.outcomes.proofs.items.values_in.Given as goal

abbrev pub invariant-loop-item : goal.invariant-loop-item
invariant-loop-item g l = l.values.items ≡ map (value_of (g.V.StateView.state l.view)) (take l.item-index l.shown)
