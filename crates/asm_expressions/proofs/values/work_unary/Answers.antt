use Rattle.std.proofs.Common.{length, arith, ◌≡◌, inr, refl}
use Rattle.asm_expressions.specs.Values.{with_unary}
use Rattle.asm_expressions.proofs.StackLemmas.{popped_some, nothing}
use Rattle.asm_expressions.proofs.values.work_unary.Goals as goal

pub returns-in-Some : goal.returns-in-Some
unfolding with_unary
returns-in-Some g c = rw (popped_some _ _ _ c.in-Some.ensures.items, ← c.unary_value.ensures) c.put.ensures

pub returns-in-None : goal.returns-in-None
unfolding with_unary
returns-in-None g c =
    let none : length c.args.values.now.items ≡ 0 = omega (arith, c.in-None.ensures.cases.0, c.args.values.now.ok.0) in
    inr (rw (nothing c.args.values.now.items none) refl)
