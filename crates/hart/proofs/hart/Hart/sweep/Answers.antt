use Rattle.std.proofs.Common.{ap, arith, length, sym, ◌∙◌}
use Rattle.cheri_model.specs.steps.Hart.{HartState}
use Rattle.cheri_model.specs.runs.Sweeps.{swept_hart}
use Rattle.hart.proofs.SweptHarts.{hart_swept, hart_counted, hart_few}
use Rattle.hart.proofs.hart.Hart.sweep.Goals as goal

pub invariant_of-self : goal.invariant_of-self
invariant_of-self c = rw (c.sweep_registers.ensures.swept, c.sweep_value-counter.ensures.swept) (hart_swept _ _ _ _ c.self.invariant)

pub returns-clause-hart : goal.returns-clause-hart
unfolding swept_hart
returns-clause-hart c = rw (c.sweep_registers.ensures.swept, c.sweep_value-counter.ensures.swept, ← c.self.view_is)

pub returns-clause-cleared : goal.returns-clause-cleared
returns-clause-cleared c = rw (c.sweep_registers.ensures.cleared, c.sweep_value-counter.ensures.cleared, ← c.self.view_is) (hart_counted _ _ _)

pub returns-clause-few : goal.returns-clause-few
returns-clause-few c =
    let count = ap (λ (h : HartState). length h.regs) (sym c.self.view_is) ∙ c.self.invariant.count in
    omega (arith, returns-clause-cleared c, hart_few c.args.lo c.args.hi c.args.self.now count)
