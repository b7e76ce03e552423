use Rattle.asm_laws.proofs.Loads.{clgc_leaves}
use Rattle.asm_laws.proofs.laws.table_entries_are_loaded.Goals as goal

pub returns : goal.returns
returns c = clgc_leaves
