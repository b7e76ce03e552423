-- those of the sets so far
use Rattle.live_registers.proofs.ScanLemmas.{HasAll}
use Rattle.live_registers.proofs.live.LiveRegisters.anywhere.Given as goal

abbrev pub invariant-loop-set : goal.invariant-loop-set
invariant-loop-set l = HasAll l.self l.all l.set-index
