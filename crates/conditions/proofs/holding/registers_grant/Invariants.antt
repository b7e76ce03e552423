-- The registers so far hold none, so that the others decide.
use Rattle.std.proofs.Common.{◌≡◌, ◌-◌}
use Rattle.cheri_model.specs.runs.Machine.{hart_at}
use Rattle.conditions.specs.Values.{registers_grant}
use Rattle.conditions.proofs.holding.registers_grant.Given as goal

abbrev pub invariant-loop-number : goal.invariant-loop-number
invariant-loop-number g l =
    registers_grant l.addr l.perms (hart_at (g.V.StateView.state l.view) l.hart) l.number (32 - l.number)
    ≡ registers_grant l.addr l.perms (hart_at (g.V.StateView.state l.view) l.hart) 1 31
