use Rattle.facts.proofs.SweptPlaces.{among_none, among_more}
use Rattle.facts.proofs.sweeping.add_registers.Goals as goal

pub loop-k-init : goal.loop-k-init
loop-k-init c = among_none _ _ _ _ _

pub loop-k-preserved : goal.loop-k-preserved
loop-k-preserved c =
    let more = rw (c.register.ensures.value, c.new.ensures) at c.in_ok-add.ensures in
    among_more _ _ _ _ c.loop-k.k _ _ _ c.loop-k.invariant more
