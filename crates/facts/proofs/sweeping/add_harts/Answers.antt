use Rattle.facts.proofs.SweptPlaces.{harts_none, harts_more, registers_none, registers_more}
use Rattle.facts.proofs.sweeping.add_harts.Goals as goal

pub loop-i-init : goal.loop-i-init
loop-i-init c = (harts_none _ _ _ _, registers_none _)

pub loop-i-preserved : goal.loop-i-preserved
loop-i-preserved c =
    let more = rw c.hart_in.ensures at c.in_ok-add_hart.ensures.places in
    let registers = rw c.hart_in.ensures at c.in_ok-add_hart.ensures.registers in
    (harts_more _ _ _ c.loop-i.i _ _ _ c.loop-i.invariant.0 more, registers_more _ c.loop-i.i c.loop-i-test.true c.loop-i.invariant.1 registers)
