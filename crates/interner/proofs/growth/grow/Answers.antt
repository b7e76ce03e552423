use Rattle.std.proofs.Common.{◌≤◌, ◌^◌, arith}
use Rattle.interner.proofs.SlotLemmas.{interner_grown}
use Rattle.interner.proofs.growth.grow.Goals as goal

pub returns : goal.returns
returns c = record {
  kept = λ width numbers before.
      let few : c.max-after.result ≤ 2 ^ 32 = omega (arith, c.max-after.ensures) in
      interner_grown width numbers c.args.slots.now.items c.args.homes.now c.args.count before
      c.in_ok-slots.field-0.items c.max-after.result few c.in_ok-slots.ensures.room
      (rw c.as_slice.ensures.value at c.in_ok-slots.ensures.old)
      (rw c.as_slice.ensures.value at c.in_ok-slots.ensures.placed);
}
