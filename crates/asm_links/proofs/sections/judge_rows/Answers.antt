use Rattle.std.proofs.lemmas.Result.{err_from_is_err_and}
use Rattle.asm_chunks.specs.Order.{row_items}
use Rattle.asm_links.specs.Sections.{row_judged, rows_judged}
use Rattle.asm_files.proofs.StepLemmas.{each_next, each_refused, each_done}
use Rattle.asm_links.proofs.sections.judge_rows.Goals as goal

pub loop-file-preserved : goal.loop-file-preserved
loop-file-preserved c =
    each_next (row_judged c.args.chunks.now) row_items c.args.rows.now c.loop-file.file c.index-rows-file.result c.index-rows-file.result _ _ c.loop-file-test.true c.index-rows-file.is
    c.loop-file.invariant _ c.in_ok-judge_file.ensures

pub returns-in_err-judge_file : goal.returns-in_err-judge_file
unfolding rows_judged
returns-in_err-judge_file c =
    let p = err_from_is_err_and c.from_residual.result c.from_residual.ensures.1 in
    rw (p.1, p.2) (each_refused (row_judged c.args.chunks.now) row_items c.args.rows.now c.loop-file.file c.index-rows-file.result c.index-rows-file.result _ _ c.loop-file-test.true c.index-rows-file.is
    c.loop-file.invariant _ _ c.in_err-judge_file.ensures)

pub returns : goal.returns
unfolding rows_judged
returns c = each_done (row_judged c.args.chunks.now) row_items c.args.rows.now c.loop-file.file _ _ c.loop-file-test.false c.loop-file.invariant
