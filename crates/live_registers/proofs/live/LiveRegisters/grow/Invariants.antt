use Rattle.std.proofs.Common.{◌≡◌}
use Rattle.live_registers.proofs.live.LiveRegisters.grow.Given as goal

abbrev pub invariant-loop-number : goal.invariant-loop-number
invariant-loop-number l = l.self.asked ≡ l.fn.self.asked
