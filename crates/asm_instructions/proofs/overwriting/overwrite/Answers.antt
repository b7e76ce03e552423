use Rattle.std.proofs.Common.{refl, sym, ◌∙◌}
use Rattle.asm_instructions.proofs.Places.{overwritten_step, overwritten_end, overwritten_past}
use Rattle.asm_instructions.proofs.overwriting.overwrite.Goals as goal

pub returns-then-place-code : goal.returns-then-place-code
returns-then-place-code c = sym (overwritten_past c.loop-instr.code c.loop-instr.place _ c.if-place-code.true) ∙ c.loop-instr.invariant

pub loop-instr-preserved : goal.loop-instr-preserved
loop-instr-preserved c =
    overwritten_step c.loop-instr.code _ _ c.loop-instr.place c.loop-instr.instr-index c.instr-item.result c.instr-item.result c.args.instrs.now
    c.loop-instr-test.true c.instr-item.is refl c.loop-instr.invariant

pub returns : goal.returns
returns c = overwritten_end c.loop-instr.code _ c.loop-instr.place c.loop-instr.instr-index c.args.instrs.now c.loop-instr-test.false c.loop-instr.invariant
