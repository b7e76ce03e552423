use Rattle.asm_late.specs.Late.{late_parts}
use Rattle.asm_statements.specs.Statements.{statement_parts}
use Rattle.asm_code.specs.Beginning.{statement_marked}
use Rattle.asm_code.proofs.StepLemmas.{steps_next, steps_end}
use Rattle.asm_code.proofs.beginning.mark_file.Goals as goal

pub loop-number-preserved : goal.loop-number-preserved
loop-number-preserved c =
    steps_next (statement_marked (late_parts c.args.late) c.args.file) statement_parts c.args.statements.now c.loop-number.number c.index-statements-number.result c.index-statements-number.result c.loop-number.marks _ _
    c.loop-number-test.true c.index-statements-number.is c.loop-number.invariant c.mark.ensures

pub returns : goal.returns
returns c =
    steps_end (statement_marked (late_parts c.args.late) c.args.file) statement_parts c.args.statements.now c.loop-number.number c.loop-number.marks _
    c.loop-number-test.false c.loop-number.invariant
