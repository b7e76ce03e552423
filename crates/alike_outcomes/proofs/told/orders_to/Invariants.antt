-- the orders so far lead to outcomes
use Rattle.std.proofs.Common.{take}
use Rattle.alike_outcomes.specs.AlikeOutcomes.{AreLeftBy}
use Rattle.alike_outcomes.proofs.told.orders_to.Given as goal

abbrev pub invariant-loop-node : goal.invariant-loop-node
invariant-loop-node l = AreLeftBy l.survey (take l.node-index l.outcomes) l.orders.items
