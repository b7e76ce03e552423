-- without a difference so far, the registers so far are the same
use Rattle.std.proofs.Common.{◌≡◌, false}
use Rattle.sample_tallies.proofs.KnownLemmas.{Agree}
use Rattle.sample_tallies.proofs.same.are_same_registers.Given as goal

abbrev pub invariant-loop-number : goal.invariant-loop-number
invariant-loop-number l = l.uppers ≡ 0 → l.addrs ≡ 0 → l.tags ≡ false → Agree l.a.regs l.b.regs l.number
