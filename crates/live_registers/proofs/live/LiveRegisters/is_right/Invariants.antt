-- the sets so far are right
use Rattle.live_registers.proofs.ScanLemmas.{IsRightTo}
use Rattle.live_registers.proofs.live.LiveRegisters.is_right.Given as goal

abbrev pub invariant-loop-number : goal.invariant-loop-number
invariant-loop-number l = IsRightTo l.program l.self l.number
