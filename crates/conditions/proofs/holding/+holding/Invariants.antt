-- How many harts the condition holds of so far.
use Rattle.std.proofs.Common.{◌≡◌, length, ◌+◌, ◌*◌, ◌≤◌}
use Rattle.conditions.specs.Formulas.{Formula}
use Rattle.conditions.specs.Entries.{entries_of}
use Rattle.conditions.specs.Holding.{how_many, is_so}
use Rattle.conditions.proofs.holding.+holding.Given as goal

abbrev pub decreases-how_many : goal.decreases-how_many
decreases-how_many g l = 2 * length l.entries.now + 1

abbrev pub decreases-is_so : goal.decreases-is_so
decreases-is_so g l = 2 * length l.entries.now

abbrev pub invariant-how_many-loop-hart : goal.invariant-how_many-loop-hart
invariant-how_many-loop-hart g l =
    (l.count ≤ l.hart) × ((formula : Formula) → l.entries ≡ entries_of formula
    → l.count ≡ how_many (λ hart. is_so (g.V.StateView.state l.view) hart formula) l.hart)
