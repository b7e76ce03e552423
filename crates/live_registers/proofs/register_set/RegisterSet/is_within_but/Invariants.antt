-- each register so far is in the other
use Rattle.live_registers.proofs.SetLemmas.{IsWithinTo}
use Rattle.live_registers.proofs.register_set.RegisterSet.is_within_but.Given as goal

abbrev pub invariant-loop-number : goal.invariant-loop-number
invariant-loop-number l = IsWithinTo l.self l.but l.other l.number
