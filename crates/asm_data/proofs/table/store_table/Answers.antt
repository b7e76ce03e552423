use Rattle.std.proofs.Common.{refl}
use Rattle.std.proofs.lemmas.Result.{err_from_is_err_and}
use Rattle.asm_late.specs.Late.{late_parts}
use Rattle.asm_data.specs.Table.{entry_stored}
use Rattle.asm_data.proofs.EachLemmas.{item_next, item_refused, items_done}
use Rattle.asm_data.proofs.table.store_table.Goals as goal

pub loop-entry-preserved : goal.loop-entry-preserved
loop-entry-preserved c =
    item_next (entry_stored (late_parts c.args.late)) c.args.table.now c.loop-entry.entry _ _ _ _ c.loop-entry-test.true refl
    c.loop-entry.invariant _ c.in_ok-store_entry.ensures

pub returns-in_err-store_entry : goal.returns-in_err-store_entry
returns-in_err-store_entry c =
    let p = err_from_is_err_and c.from_residual.result c.from_residual.ensures.1 in
    rw (p.1, p.2) (item_refused (entry_stored (late_parts c.args.late)) c.args.table.now c.loop-entry.entry _ _ _ _ c.loop-entry-test.true refl
    c.loop-entry.invariant _ _ c.in_err-store_entry.ensures)

pub returns : goal.returns
returns c = items_done (entry_stored (late_parts c.args.late)) c.args.table.now c.loop-entry.entry _ _ c.loop-entry-test.false c.loop-entry.invariant
