use Rattle.asm_late.specs.Late.{late_parts}
use Rattle.asm_files.specs.Programs.{file_parts}
use Rattle.asm_code.specs.Beginning.{file_marked}
use Rattle.asm_code.proofs.StepLemmas.{steps_next, steps_end}
use Rattle.asm_code.proofs.beginning.mark_all.Goals as goal

pub loop-number-preserved : goal.loop-number-preserved
unfolding file_marked
loop-number-preserved c =
    steps_next (file_marked (late_parts c.args.late)) file_parts c.args.files.now c.loop-number.number c.index-files-number.result c.index-files-number.result c.loop-number.marks _ _
    c.loop-number-test.true c.index-files-number.is c.loop-number.invariant (rw c.as_slice.ensures.value at c.mark_file.ensures)

pub returns : goal.returns
returns c =
    steps_end (file_marked (late_parts c.args.late)) file_parts c.args.files.now c.loop-number.number c.loop-number.marks _
    c.loop-number-test.false c.loop-number.invariant
