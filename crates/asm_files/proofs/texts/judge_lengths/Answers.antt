use Rattle.std.proofs.Common.{refl, sym}
use Rattle.std.proofs.lemmas.Result.{err_from_is_err_and}
use Rattle.asm_files.specs.Programs.{text_of}
use Rattle.asm_files.specs.Files.{length_step, lengths_judged}
use Rattle.asm_files.proofs.StepLemmas.{each_next, each_failed, each_done}
use Rattle.asm_files.proofs.texts.judge_lengths.Goals as goal

pub loop-number-preserved : goal.loop-number-preserved
loop-number-preserved c =
    each_next length_step text_of c.args.texts.now c.loop-number.number _ _ tt _ c.loop-number-test.true refl
    c.loop-number.invariant tt (sym c.in_ok-judge_length.ensures)

pub returns-in_err-judge_length : goal.returns-in_err-judge_length
unfolding lengths_judged
returns-in_err-judge_length c =
    let p = err_from_is_err_and c.from_residual.result c.from_residual.ensures.1 in
    rw (p.1, p.2) (sym (each_failed length_step text_of c.args.texts.now c.loop-number.number _ _ tt _ c.loop-number-test.true refl
    c.loop-number.invariant _ (sym c.in_err-judge_length.ensures)))

pub returns : goal.returns
unfolding lengths_judged
returns c = sym (each_done length_step text_of c.args.texts.now c.loop-number.number tt _ c.loop-number-test.false c.loop-number.invariant)
