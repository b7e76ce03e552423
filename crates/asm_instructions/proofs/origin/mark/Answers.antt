use Rattle.std.proofs.Common.{Some, sym, ◌∙◌}
use Rattle.asm_instructions.specs.Origins.{marked}
use Rattle.asm_instructions.proofs.Places.{overwritten_past, repeated_step, repeated_end}
use Rattle.asm_instructions.proofs.origin.mark.Goals as goal

pub returns-then-place-marks : goal.returns-then-place-marks
unfolding marked
returns-then-place-marks c = sym (overwritten_past c.loop-left.marks c.loop-left.place _ c.if-place-marks.true) ∙ c.loop-left.invariant

pub loop-left-preserved : goal.loop-left-preserved
loop-left-preserved c = repeated_step c.loop-left.marks _ c.loop-left.place c.loop-left.left (Some c.args.origin) c.loop-left-test.true c.loop-left.invariant

pub returns : goal.returns
unfolding marked
returns c = repeated_end c.loop-left.marks _ c.loop-left.place c.loop-left.left (Some c.args.origin) c.loop-left-test.false c.loop-left.invariant
