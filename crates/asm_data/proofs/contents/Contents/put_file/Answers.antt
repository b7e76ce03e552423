use Rattle.std.proofs.Common.{map, refl}
use Rattle.std.proofs.lemmas.Result.{err_from_is_err_and}
use Rattle.asm_late.specs.Late.{late_parts}
use Rattle.asm_statements.specs.Statements.{statement_parts}
use Rattle.asm_files.proofs.StepLemmas.{each_next, each_refused, each_done}
use Rattle.asm_data.specs.Contents.{statement_put}
use Rattle.asm_data.proofs.contents.Contents.put_file.Goals as goal

pub loop-number-preserved : goal.loop-number-preserved
loop-number-preserved c =
    each_next (statement_put (late_parts c.args.late) c.args.file) statement_parts c.args.statements.now c.loop-number.number c.index-statements-number.result c.index-statements-number.result _ _ c.loop-number-test.true c.index-statements-number.is
    c.loop-number.invariant _ c.in_ok-put_statement.ensures

pub returns-in_err-put_statement : goal.returns-in_err-put_statement
returns-in_err-put_statement c =
    let p = err_from_is_err_and c.from_residual.result c.from_residual.ensures.1 in
    rw (p.1, p.2) (each_refused (statement_put (late_parts c.args.late) c.args.file) statement_parts c.args.statements.now c.loop-number.number c.index-statements-number.result c.index-statements-number.result _ _ c.loop-number-test.true c.index-statements-number.is
    c.loop-number.invariant _ _ c.in_err-put_statement.ensures)

pub returns : goal.returns
returns c = each_done (statement_put (late_parts c.args.late) c.args.file) statement_parts c.args.statements.now c.loop-number.number _ _ c.loop-number-test.false c.loop-number.invariant
