use Rattle.asm_map_laws.proofs.Maps.{map_reads}
use Rattle.asm_map_laws.proofs.laws.written_maps_are_read.Goals as goal

pub returns : goal.returns
returns c = map_reads
