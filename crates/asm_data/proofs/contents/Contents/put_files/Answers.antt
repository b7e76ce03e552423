use Rattle.std.proofs.Common.{map, refl}
use Rattle.std.proofs.lemmas.Result.{err_from_is_err_and}
use Rattle.asm_late.specs.Late.{late_parts}
use Rattle.asm_files.specs.Programs.{file_parts}
use Rattle.asm_files.proofs.StepLemmas.{each_next, each_refused, each_done}
use Rattle.asm_data.specs.Contents.{file_put}
use Rattle.asm_data.proofs.contents.Contents.put_files.Goals as goal

pub loop-number-preserved : goal.loop-number-preserved
unfolding file_put
loop-number-preserved c =
    each_next (file_put (late_parts c.args.late)) file_parts c.args.files.now c.loop-number.number c.index-files-number.result c.index-files-number.result _ _ c.loop-number-test.true c.index-files-number.is
    c.loop-number.invariant _ (rw c.as_slice.ensures.value at c.in_ok-put_file.ensures)

pub returns-in_err-put_file : goal.returns-in_err-put_file
unfolding file_put
returns-in_err-put_file c =
    let p = err_from_is_err_and c.from_residual.result c.from_residual.ensures.1 in
    rw (p.1, p.2) (each_refused (file_put (late_parts c.args.late)) file_parts c.args.files.now c.loop-number.number c.index-files-number.result c.index-files-number.result _ _ c.loop-number-test.true c.index-files-number.is
    c.loop-number.invariant _ _ (rw c.as_slice.ensures.value at c.in_err-put_file.ensures))

pub returns : goal.returns
returns c = each_done (file_put (late_parts c.args.late)) file_parts c.args.files.now c.loop-number.number _ _ c.loop-number-test.false c.loop-number.invariant
