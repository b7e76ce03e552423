use Rattle.std.proofs.Common.{◌≡◌, ◌+◌, ◌-◌, ◌∙◌, arith, refl, sym}
use Rattle.tagged_mem.proofs.PackedBytes.{with_number_turn, with_number_done}
use Rattle.tagged_mem.proofs.packed.put_bytes.Goals as goal

pub loop-k-init : goal.loop-k-init
loop-k-init c =
    let place : c.args.index + 0 ≡ c.args.index = omega arith in
    let count : c.args.count - 0 ≡ c.args.count = omega arith in
    rw (place, count) refl

pub loop-k-preserved : goal.loop-k-preserved
loop-k-preserved c = with_number_turn _ _ _ _ _ c.loop-k-test.true ∙ c.loop-k.invariant

pub returns : goal.returns
returns c = sym (with_number_done _ _ _ _ _ c.loop-k-test.false) ∙ c.loop-k.invariant
