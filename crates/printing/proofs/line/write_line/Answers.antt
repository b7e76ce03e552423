use Rattle.printing.proofs.LineLemmas.{line_unwritten}
use Rattle.printing.proofs.line.write_line.Goals as goal

pub returns-in-None-clause-prefix : goal.returns-in-None-clause-prefix
returns-in-None-clause-prefix g c = line_unwritten (g.D.Display.output c.args.value) _
