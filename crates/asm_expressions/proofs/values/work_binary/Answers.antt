use Rattle.std.proofs.Common.{length, arith, ◌≡◌, inr, refl}
use Rattle.asm_expressions.specs.Values.{with_binary}
use Rattle.asm_expressions.proofs.StackLemmas.{popped_some, nothing}
use Rattle.asm_expressions.proofs.values.work_binary.Goals as goal

pub returns-in_default : goal.returns-in_default
unfolding with_binary
returns-in_default g c =
    let none : length c.args.values.now.items ≡ 0 = omega (arith, c.in_default.ensures.cases.0, c.args.values.now.ok.0) in
    inr (rw (nothing c.args.values.now.items none) refl)

pub returns-in_default-pop : goal.returns-in_default-pop
unfolding with_binary
returns-in_default-pop g c =
    let none : length c.pop.new.self.items ≡ 0 = omega (arith, c.in_default-pop.ensures.cases.0, c.pop.new.self.ok.0) in
    inr (rw (popped_some _ _ _ c.in-Some.ensures.items, nothing c.pop.new.self.items none) refl)

pub returns : goal.returns
unfolding with_binary
returns g c =
    rw (popped_some _ _ _ c.in-Some.ensures.items, popped_some _ _ _ c.in-Some-pop.ensures.items, ← c.apart_of-apart.ensures, ← c.binary_value.ensures)
    c.put.ensures
