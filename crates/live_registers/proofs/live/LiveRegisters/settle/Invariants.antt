use Rattle.std.proofs.Common.{◌≡◌}
use Rattle.live_registers.proofs.live.LiveRegisters.settle.Given as goal

abbrev pub invariant-loop : goal.invariant-loop
invariant-loop l = l.self.asked ≡ l.fn.self.asked
