use Rattle.std.proofs.Common.{arith}
use Rattle.sample_tallies.proofs.KnownLemmas.{all_same}
use Rattle.sample_tallies.proofs.same.are_same_changes.Goals as goal

pub returns : goal.returns
returns c = λ _.
    all_same c.args.a.now c.args.b.now c.loop-place.place (omega arith) (omega arith) c.loop-place.invariant
