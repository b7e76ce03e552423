-- the registers so far are forgotten
use Rattle.live_registers.proofs.WriteLemmas.{IsForgotten}
use Rattle.live_registers.proofs.register_set.RegisterSet.forget.Given as goal

abbrev pub invariant-loop-number : goal.invariant-loop-number
invariant-loop-number l = IsForgotten l.self l.fn.hart l.hart l.number
