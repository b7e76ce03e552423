use Rattle.std.proofs.Common.{◌%◌, arith, ◌∙◌}
use Rattle.std.proofs.lemmas.List.{length-set}
use Rattle.graph_nodes.proofs.PackingLemmas.{digit_written, first_written}
use Rattle.graph_nodes.proofs.packing.unpack.Goals as goal

pub loop-place-preserved : goal.loop-place-preserved
loop-place-preserved c =
    let written = digit_written c.args.bits c.loop-place.place c.loop-place.rest c.loop-place.row _
    (omega arith) c.loop-place.invariant.below c.loop-place.invariant.written in
    let long = length-set c.loop-place.row c.loop-place.place (c.loop-place.rest % c.base_of.result) in
    record {
      below = omega (arith, c.loop-place.invariant.below, long);
      same_room = long ∙ c.loop-place.invariant.same_room;
      written = rw (c.base_of.ensures, c.base_of-rest.ensures) written;
    }

pub returns-clause-row : goal.returns-clause-row
returns-clause-row c =
    first_written c.args.bits c.loop-place.place c.loop-place.rest c.loop-place.row _ (omega arith)
    c.loop-place.invariant.below c.loop-place.invariant.written
