use Rattle.std.proofs.Common.{append_assoc}
use Rattle.report_lines.specs.Lines.{image_line}
use Rattle.report_lines.proofs.lines.write_image_line.Goals as goal

pub returns : goal.returns
unfolding image_line
returns c =
    let e = simp (c.harts.ensures, c.program.ensures, c.ram.ensures) at c.in_ok-writeln.ensures.bytes in
    simp append_assoc e
