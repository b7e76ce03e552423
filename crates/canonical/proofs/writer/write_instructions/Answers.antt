use Rattle.canonical.specs.Canon.{program_line}
use Rattle.canonical.proofs.WriterLemmas.{each_step, each_end}
use Rattle.canonical.proofs.writer.write_instructions.Goals as goal

pub loop-instr-preserved : goal.loop-instr-preserved
loop-instr-preserved c =
    each_step program_line c.args.program.now c.loop-instr.instr-index c.instr-item.result c.instr-item.result _ _ _ c.loop-instr-test.true c.instr-item.is
    c.in_ok-write_instruction.ensures c.loop-instr.invariant

pub returns : goal.returns
returns c = each_end program_line c.args.program.now c.loop-instr.instr-index _ _ c.loop-instr-test.false c.loop-instr.invariant
