use Rattle.std.proofs.Common.{sym, length, [], ◌∷◌}
use Rattle.std.proofs.lemmas.List.{length-take-le}
use Rattle.granule_states.proofs.graph.GranuleGraph.way_from_respects.Goals as goal

pub slice_bounds-along-end : goal.slice_bounds-along-end
slice_bounds-along-end c = c.requires.few

pub slice_bounds-along-end-2 : goal.slice_bounds-along-end-2
slice_bounds-along-end-2 c = sym (length-take-le (length c.args.row.now) (0 ∷ 0 ∷ 0 ∷ 0 ∷ 0 ∷ 0 ∷ 0 ∷ 0 ∷ 0 ∷ []) c.requires.few)

pub copy_from_slice-requires : goal.copy_from_slice-requires
copy_from_slice-requires c = length-take-le (length c.args.row.now) (0 ∷ 0 ∷ 0 ∷ 0 ∷ 0 ∷ 0 ∷ 0 ∷ 0 ∷ 0 ∷ []) c.requires.few
