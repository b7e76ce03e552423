use Rattle.std.proofs.Common.{None, get_or, refl}
use Rattle.std.proofs.lemmas.Result.{err_from_is_err_and}
use Rattle.asm_late.specs.Late.{late_parts}
use Rattle.asm_statements.specs.declared.statement.Operand.{Operand}
use Rattle.asm_statements.specs.declared.statement.Role.TheVariants.{Absent}
use Rattle.asm_data.specs.Data.{number_stored}
use Rattle.asm_data.proofs.EachLemmas.{item_next, item_refused, items_done}
use Rattle.asm_data.proofs.data.store_numbers.Goals as goal

none : Operand
none = record { role = Absent; relocation = None; first = 0; end = 0 }

pub loop-item-preserved : goal.loop-item-preserved
loop-item-preserved c =
    let operand = get_or c.args.operands.now c.loop-item.item none in
    item_next (number_stored (late_parts c.args.site.late) c.args.site.file c.args.site.number c.args.width) c.args.operands.now c.loop-item.item none operand _ _ c.loop-item-test.true refl
    c.loop-item.invariant _ (c.in_ok-store_number.ensures operand)

pub returns-in_err-store_number : goal.returns-in_err-store_number
returns-in_err-store_number c =
    let operand = get_or c.args.operands.now c.loop-item.item none in
    let p = err_from_is_err_and c.from_residual.result c.from_residual.ensures.1 in
    rw (p.1, p.2) (item_refused (number_stored (late_parts c.args.site.late) c.args.site.file c.args.site.number c.args.width) c.args.operands.now c.loop-item.item none operand _ _ c.loop-item-test.true refl
    c.loop-item.invariant _ _ (c.in_err-store_number.ensures operand))

pub returns : goal.returns
returns c = items_done (number_stored (late_parts c.args.site.late) c.args.site.file c.args.site.number c.args.width) c.args.operands.now c.loop-item.item _ _ c.loop-item-test.false c.loop-item.invariant
