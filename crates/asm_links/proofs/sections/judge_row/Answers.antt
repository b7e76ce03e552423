use Rattle.std.proofs.Common.{refl}
use Rattle.std.proofs.lemmas.Result.{err_from_is_err_and}
use Rattle.asm_links.specs.Sections.{own_judged, row_judged}
use Rattle.asm_links.proofs.RowLemmas.{row_next, row_refused, row_done}
use Rattle.asm_links.proofs.sections.judge_row.Goals as goal

pub loop-section-preserved : goal.loop-section-preserved
loop-section-preserved c =
    row_next (own_judged c.args.chunks.now c.args.file) c.args.row.now c.loop-section.section _ _ _ _ c.loop-section-test.true refl
    c.loop-section.invariant _ c.in_ok-judge_own.ensures

pub returns-in_err-judge_own : goal.returns-in_err-judge_own
unfolding row_judged
returns-in_err-judge_own c =
    let p = err_from_is_err_and c.from_residual.result c.from_residual.ensures.1 in
    rw (p.1, p.2) (row_refused (own_judged c.args.chunks.now c.args.file) c.args.row.now c.loop-section.section _ _ _ _ c.loop-section-test.true refl
    c.loop-section.invariant _ _ c.in_err-judge_own.ensures)

pub returns : goal.returns
unfolding row_judged
returns c = row_done (own_judged c.args.chunks.now c.args.file) c.args.row.now c.loop-section.section _ _ c.loop-section-test.false c.loop-section.invariant
