-- the registers so far
use Rattle.std.specs.Prelude.{nat_lt}
use Rattle.asked_registers.specs.Asked.{IsWith}
use Rattle.reductions.proofs.finding.with_all.Given as goal

abbrev pub invariant-loop-number : goal.invariant-loop-number
invariant-loop-number l = IsWith l.fn.asked (λ reg. nat_lt reg l.number) l.all
