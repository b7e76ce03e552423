use Rattle.std.proofs.Common.{◌<◌, length, arith}
use Rattle.std.specs.Prelude.{slice_index}
use Rattle.interner.proofs.SlotLemmas.{named}
use Rattle.interner.proofs.word_slots.place_of.Goals as goal

pub is_named-requires-clause-named : goal.is_named-requires-clause-named
is_named-requires-clause-named c =
    let b = c.requires.before in
    let some : 0 < slice_index c.args.slots.now c.loop-place.place = omega arith in
    let n = named 1 c.args.words.now c.args.slots.now b.0 (length c.args.words.now) b.1 c.loop-place.place some in
    (n.0, n.1, n.4, n.3)
