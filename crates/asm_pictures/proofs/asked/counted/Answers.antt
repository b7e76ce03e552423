use Rattle.asm_pictures.proofs.AskedLemmas.{counted_more}
use Rattle.asm_pictures.proofs.asked.counted.Goals as goal

pub loop-number-preserved : goal.loop-number-preserved
loop-number-preserved c =
    counted_more c.loop-number.harts.items c.push.new.self.items c.some_request.result c.loop-number._number c.loop-number.invariant
    c.some_request.ensures c.in_ok-push.ensures.items
