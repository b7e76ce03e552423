-- the operations of the labels so far
use Rattle.std.proofs.Common.{[], take}
use Rattle.schedules.specs.Schedules.{AreLabelsOf}
use Rattle.forgotten_states.proofs.nodes.steps_of.Given as goal

abbrev pub invariant-loop-label : goal.invariant-loop-label
invariant-loop-label l = AreLabelsOf l.image [] (take l.label-index l.labels) l.ops.items
