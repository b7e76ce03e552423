use Rattle.std.proofs.Common.{refl}
use Rattle.std.proofs.lemmas.Result.{err_from_is_err_and}
use Rattle.asm_files.specs.Programs.{text_of}
use Rattle.asm_files.specs.Files.{file_read, files_of}
use Rattle.asm_files.proofs.StepLemmas.{each_next, each_refused, each_done}
use Rattle.asm_files.proofs.texts.read_files.Goals as goal

pub loop-number-preserved : goal.loop-number-preserved
loop-number-preserved c =
    each_next (file_read) text_of c.args.texts.now c.loop-number.number _ _ _ _ c.loop-number-test.true refl
    c.loop-number.invariant _ c.in_ok-push_file.ensures

pub returns-in_err-push_file : goal.returns-in_err-push_file
unfolding files_of
returns-in_err-push_file c =
    let p = err_from_is_err_and c.from_residual.result c.from_residual.ensures.1 in
    rw (p.1, p.2) (each_refused (file_read) text_of c.args.texts.now c.loop-number.number _ _ _ _ c.loop-number-test.true refl
    c.loop-number.invariant _ _ c.in_err-push_file.ensures)

pub returns : goal.returns
unfolding files_of
returns c = each_done (file_read) text_of c.args.texts.now c.loop-number.number _ _ c.loop-number-test.false c.loop-number.invariant
