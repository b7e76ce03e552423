-- the operations of the labels so far
use Rattle.std.proofs.Common.{take}
use Rattle.schedules.specs.Schedules.{AreLabelsOf}
use Rattle.states.proofs.kept.Kept.operations.Given as goal

abbrev pub invariant-loop-label : goal.invariant-loop-label
invariant-loop-label l = AreLabelsOf l.self.image l.self.sweeps (take l.label-index l.labels) l.order.items
