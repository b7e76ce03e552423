use Rattle.std.proofs.Common.{◌≡◌, drop}
use Rattle.sample_draws.specs.Cycles.{same_values}
use Rattle.sample_draws.proofs.cycles.same_registers.Given as goal

-- what is not compared yet decides
abbrev pub invariant-loop-number : goal.invariant-loop-number
invariant-loop-number l =
    same_values (drop l.number l.a.regs) (drop l.number l.b.regs) ≡ same_values l.a.regs l.b.regs
