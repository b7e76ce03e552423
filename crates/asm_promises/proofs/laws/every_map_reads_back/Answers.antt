use Rattle.asm_map_laws.proofs.Maps.{map_reads}
use Rattle.asm_promises.proofs.MapTold.{map_writable}
use Rattle.asm_promises.proofs.laws.every_map_reads_back.Goals as goal

pub returns : goal.returns
returns c = record {
  lines = λ texts harts a names lines few e count texts_are is. map_writable texts harts a names lines few e count texts_are is;
  reads = λ texts harts a names lines counts few e count texts_are is. map_reads counts lines (map_writable texts harts a names lines few e count texts_are is);
}
