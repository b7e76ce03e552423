use Rattle.std.proofs.Common.{◌-◌, ℕ, [], ◌∷◌, length, sym, arith}
use Rattle.std.proofs.lemmas.List.{length-take-le}
use Rattle.hart_order.proofs.RowLemmas.{row_some}
use Rattle.hart_order.proofs.rows.put_in_order.Goals as goal

pub overflow_sub-count : goal.overflow_sub-count
overflow_sub-count c = row_some c.args.store.now c.args.row.now c.requires.meant

pub slice_bounds-arrange_row-end : goal.slice_bounds-arrange_row-end
slice_bounds-arrange_row-end c =
    let few = c.requires.few in
    sym (length-take-le {A = ℕ} (length c.args.row.now - 1) (0 ∷ 0 ∷ 0 ∷ 0 ∷ 0 ∷ 0 ∷ 0 ∷ 0 ∷ []) (omega arith))

pub arrange_row-requires-clause-places : goal.arrange_row-requires-clause-places
arrange_row-requires-clause-places c =
    let some = row_some c.args.store.now c.args.row.now c.requires.meant in
    let few = c.requires.few in
    let taken = length-take-le {A = ℕ} (length c.args.row.now - 1) (0 ∷ 0 ∷ 0 ∷ 0 ∷ 0 ∷ 0 ∷ 0 ∷ 0 ∷ []) (omega arith) in
    omega (arith, some, taken)
