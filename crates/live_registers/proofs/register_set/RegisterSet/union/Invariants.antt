-- the registers so far are those of both
use Rattle.live_registers.proofs.SetLemmas.{IsUnion}
use Rattle.live_registers.proofs.register_set.RegisterSet.union.Given as goal

abbrev pub invariant-loop-number : goal.invariant-loop-number
invariant-loop-number l = IsUnion l.self l.other l.members l.number
