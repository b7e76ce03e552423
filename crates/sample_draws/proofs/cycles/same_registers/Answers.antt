use Rattle.std.proofs.Common.{◌≡◌, true, false, sym, ap, ◌∙◌, arith, rules}
use Rattle.cheri_model.specs.steps.Hart.{register}
use Rattle.sample_draws.proofs.SameLemmas.{values_differ, values_agree, same_values-end}
use Rattle.sample_draws.proofs.cycles.same_registers.Goals as goal

pub returns-then-not-same_value : goal.returns-then-not-same_value
unfolding register
returns-then-not-same_value c =
    let n = c.loop-number.number in
    let a = c.args.a.now in
    let b = c.args.b.now in
    let differ : c.same_value.result ≡ false = search rules in
    values_differ a.regs b.regs n _ _ _
    (omega (arith, c.pcc.ensures.formed.count)) (omega (arith, c.pcc-2.ensures.formed.count))
    (c.register.ensures.value ∙ ap (λ k. register a k) c.new-reg.ensures)
    (c.register-in-loop-number.ensures.value ∙ ap (λ k. register b k) c.new-reg.ensures)
    (sym c.same_value.ensures ∙ differ)
    c.loop-number.invariant

pub loop-number-preserved : goal.loop-number-preserved
unfolding register
loop-number-preserved c =
    let n = c.loop-number.number in
    let a = c.args.a.now in
    let b = c.args.b.now in
    let agree : c.same_value.result ≡ true = search rules in
    values_agree a.regs b.regs n _ _ _
    (omega (arith, c.pcc.ensures.formed.count)) (omega (arith, c.pcc-2.ensures.formed.count))
    (c.register.ensures.value ∙ ap (λ k. register a k) c.new-reg.ensures)
    (c.register-in-loop-number.ensures.value ∙ ap (λ k. register b k) c.new-reg.ensures)
    (sym c.same_value.ensures ∙ agree)
    c.loop-number.invariant

pub returns : goal.returns
returns c =
    sym (same_values-end c.args.a.now.regs c.args.b.now.regs c.loop-number.number
    (omega (arith, c.pcc.ensures.formed.count)) (omega (arith, c.pcc-2.ensures.formed.count)))
    ∙ c.loop-number.invariant
