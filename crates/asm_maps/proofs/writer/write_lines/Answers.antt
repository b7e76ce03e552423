use Rattle.std.proofs.Common.{refl}
use Rattle.asm_maps.proofs.LineLemmas.{line_written, lines_end}
use Rattle.asm_maps.proofs.writer.write_lines.Goals as goal

pub loop-line-preserved : goal.loop-line-preserved
loop-line-preserved c =
    line_written c.args.lines.now c.loop-line.line-index _ _ _ _ _ c.loop-line-test.true refl c.in_ok-writeln.ensures.bytes
    c.loop-line.invariant

pub returns : goal.returns
returns c = lines_end c.args.lines.now c.loop-line.line-index _ _ c.loop-line-test.false c.loop-line.invariant
