use Rattle.std.proofs.Common.{◌≡◌, List, length, true, false, ap, sym, ◌∙◌, arith, inl, inr}
use Rattle.std.specs.Prelude.{Bool}
use Rattle.live_registers.proofs.SetLemmas.{within_first, within_more, within_is, read_as}
use Rattle.live_registers.proofs.register_set.RegisterSet.is_within_but.Goals as goal
use Rattle.live_registers.proofs.register_set.RegisterSet.is_within_but.Goals.{then-number-but-via-then-number-but, then-number-but-via-else-number-but+then-not-self-number}

pub loop-number-init : goal.loop-number-init
loop-number-init c = within_first c.args.self.now c.from-but.result c.args.other.now

pub loop-number-preserved-then-number-but : goal.loop-number-preserved-then-number-but
loop-number-preserved-then-number-but c = elim c.then-number-but.branch [
  | then-number-but-via-then-number-but w ↦
      within_more c.args.self.now c.from-but.result c.args.other.now c.loop-number.number
      (inl w.if-number-but.true) c.loop-number.invariant
  | then-number-but-via-else-number-but+then-not-self-number w ↦
      within_more c.args.self.now c.from-but.result c.args.other.now c.loop-number.number
      (inr (inl (read_as c.args.self.now c.self.inside.members c.loop-number.number false c.self.view_is c.self.told c.loop-number-test.true w.if-not-self-number.true)))
      c.loop-number.invariant
]

pub loop-number-preserved : goal.loop-number-preserved
loop-number-preserved c =
    within_more c.args.self.now c.from-but.result c.args.other.now c.loop-number.number
    (inr (inr (read_as c.args.other.now c.other.inside.members c.loop-number.number true c.other.view_is c.other.told c.loop-number-test.true c.if-not-other-number.false)))
    c.loop-number.invariant

pub returns : goal.returns
returns c =
    let ends : c.loop-number.number ≡ 32 = omega arith in
    let but : c.from-but.result ≡ c.args.reg = c.from-but.ensures ∙ c.number.ensures.value in
    λ same. within_is c.args.self.now c.args.reg c.args.other.now
    (ap (λ (xs : List Bool). length xs) (sym c.other.view_is) ∙ c.other.told)
    (rw (ends, but) at c.loop-number.invariant)
