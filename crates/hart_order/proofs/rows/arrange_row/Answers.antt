use Rattle.hart_order.specs.Arrangements.{Arrangement}
use Rattle.hart_order.proofs.RowLemmas.{row_is_of, row_ordered, row_some}
use Rattle.hart_order.proofs.rows.arrange_row.Goals as goal
use Rattle.state_store.specs.Stores.{state_of}
use Rattle.state_store.proofs.NumberedLemmas.{some_of}

pub slice_bounds-arrange-count : goal.slice_bounds-arrange-count
slice_bounds-arrange-count c = row_some c.args.store.now c.args.row.now c.requires.meant

pub arrange-requires-clause-meant : goal.arrange-requires-clause-meant
arrange-requires-clause-meant c =
    let s = some_of (state_of c.args.store.now c.args.row.now) c.requires.meant in
    let made : Arrangement = record { harts = s.0.harts; places = c.args.places.now } in
    (made, row_is_of c.args.store.now c.args.row.now c.args.places.now s.0 s.1)

pub returns-clause-state : goal.returns-clause-state
returns-clause-state c s is =
    row_ordered c.args.store.now c.args.groups.now c.args.row.now c.args.places.now c.arrange.new.harts c.arrange.new.places s is
    c.requires.places (c.arrange.ensures.arranged (record { harts = s.harts; places = c.args.places.now })
    (row_is_of c.args.store.now c.args.row.now c.args.places.now s is))
