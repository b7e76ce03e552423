-- the sets so far have it
use Rattle.live_registers.proofs.ScanLemmas.{HasAskedTo}
use Rattle.live_registers.proofs.live.LiveRegisters.has_asked.Given as goal

abbrev pub invariant-loop-set : goal.invariant-loop-set
invariant-loop-set l = HasAskedTo l.self l.set-index
