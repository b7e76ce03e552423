use Rattle.std.proofs.Common.{◌≡◌, false, true, sym, ◌∙◌, arith}
use Rattle.live_registers.specs.RegisterSets.{has}
use Rattle.live_registers.proofs.WriteLemmas.{forgotten_first, forgotten_kept, forgotten_put, forgotten_all}
use Rattle.live_registers.proofs.register_set.RegisterSet.forget.Goals as goal
use Rattle.live_registers.proofs.register_set.RegisterSet.forget.Goals.{then-not-has, else-not-has}

pub loop-number-init : goal.loop-number-init
loop-number-init c = forgotten_first c.args.self.now c.args.hart.now

pub loop-number-preserved : goal.loop-number-preserved
loop-number-preserved c = elim c.if-not-has.branch [
  | then-not-has w ↦
      let lost : has c.args.self.now c.loop-number.number ≡ false =
      rw c.new-reg.ensures at (sym c.has.ensures ∙ w.if-not-has.true) in
      rw (w.hart-is, w.put.ensures.value, w.null.ensures, c.new-reg.ensures)
      (forgotten_put c.args.self.now c.args.hart.now c.loop-number.hart c.loop-number.number lost c.loop-number.invariant)
  | else-not-has w ↦
      let held : has c.args.self.now c.loop-number.number ≡ true =
      rw c.new-reg.ensures at (sym c.has.ensures ∙ w.if-not-has.false) in
      rw w.hart-is
      (forgotten_kept c.args.self.now c.args.hart.now c.loop-number.hart c.loop-number.number held c.loop-number.invariant)
]

pub returns : goal.returns
returns c =
    let ends : c.loop-number.number ≡ 32 = omega arith in
    forgotten_all c.args.self.now c.args.hart.now c.loop-number.hart c.pcc-pcc.ensures.formed.count
    (rw ends at c.loop-number.invariant)
