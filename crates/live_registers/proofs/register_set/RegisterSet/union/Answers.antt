use Rattle.std.proofs.Common.{◌≡◌, List, length, true, false, ap, sym, ◌∙◌, arith}
use Rattle.std.specs.Prelude.{Bool}
use Rattle.live_registers.proofs.SetLemmas.{union_first, union_added, union_kept, union_is, read_as}
use Rattle.live_registers.proofs.register_set.RegisterSet.union.Goals as goal
use Rattle.live_registers.proofs.register_set.RegisterSet.union.Goals.{then-other-number, else-other-number}

pub loop-number-init : goal.loop-number-init
loop-number-init c = union_first c.args.self.now c.args.other.now c.self.inside.members (sym c.self.view_is) c.self.told

pub loop-number-preserved : goal.loop-number-preserved
loop-number-preserved c = elim c.if-other-number.branch [
  | then-other-number w ↦
      rw w.members-is
      (union_added c.args.self.now c.args.other.now c.loop-number.members c.loop-number.number c.loop-number-test.true
      (read_as c.args.other.now c.other.inside.members c.loop-number.number true c.other.view_is c.other.told c.loop-number-test.true w.if-other-number.true)
      c.loop-number.invariant)
  | else-other-number w ↦
      rw w.members-is
      (union_kept c.args.self.now c.args.other.now c.loop-number.members c.loop-number.number
      (read_as c.args.other.now c.other.inside.members c.loop-number.number false c.other.view_is c.other.told c.loop-number-test.true w.if-other-number.false)
      c.loop-number.invariant)
]

pub invariant_of-result : goal.invariant_of-result
invariant_of-result c = c.loop-number.invariant.size

pub returns : goal.returns
returns c =
    let ends : c.loop-number.number ≡ 32 = omega arith in
    union_is c.args.self.now c.args.other.now c.loop-number.members
    (ap (λ (xs : List Bool). length xs) (sym c.self.view_is) ∙ c.self.told)
    (ap (λ (xs : List Bool). length xs) (sym c.other.view_is) ∙ c.other.told)
    (rw ends at c.loop-number.invariant)
