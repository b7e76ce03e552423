use Rattle.asm_map_laws.proofs.Lines.{line_reads}
use Rattle.asm_map_laws.proofs.laws.written_lines_are_read.Goals as goal

pub returns : goal.returns
returns c = line_reads
