-- the operations so far are allowed
use Rattle.std.proofs.Common.{take}
use Rattle.schedules.specs.Schedules.{AreAllowed}
use Rattle.found_texts.proofs.running.are_allowed.Given as goal

abbrev pub invariant-loop-op : goal.invariant-loop-op
invariant-loop-op l = AreAllowed l.sweeps (take l.op-index l.order)
