use Rattle.std.proofs.Common.{◌∙◌, arith}
use Rattle.orders.proofs.OrderLemmas.{blank_passed}
use Rattle.orders.proofs.reader.after_blanks.Goals as goal

pub loop-place-preserved : goal.loop-place-preserved
loop-place-preserved c =
    let i = c.loop-place.invariant in record {
      ahead = omega (arith, i.ahead);
      inside = search arith;
      same = blank_passed c.args.text.now c.loop-place.place (search arith) (search arith) ∙ i.same;
    }
