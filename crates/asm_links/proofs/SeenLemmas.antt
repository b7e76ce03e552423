-- Why the symbols can't be seen by all files.
use Rattle.std.proofs.Common.{◌≡◌, ◌⊎◌, inl, inr, refl, ℕ, List, Ok, Err}
use Rattle.std.specs.Prelude.{Option}
use Rattle.asm_symbols.specs.declared.globals.PublishFault.{PublishFault}
use Rattle.asm_symbols.specs.declared.globals.PublishFault.TheVariants.{NoMemory}
use Rattle.asm_symbols.specs.Globals.{published}
use Rattle.asm_symbols.specs.Names.{no_names}
use Rattle.asm_files.specs.Faults.{IsNoMemory}
use Rattle.asm_files.specs.Programs.{ProgramParts}
use Rattle.asm_links.specs.Seen.{publish_fault, seen_of, wanted_in}

pub publish_refused : (program : ProgramParts) (fault : PublishFault)
    → (fault ≡ NoMemory) ⊎ (published (wanted_in program) 0 no_names program.made.symbols ≡ Err fault)
    → IsNoMemory (publish_fault program fault) ⊎ (seen_of program ≡ Err (publish_fault program fault))
unfolding seen_of
publish_refused program fault (inl none) = inl (rw none refl)
publish_refused program fault (inr refused) = inr (rw refused refl)

pub publish_done : (program : ProgramParts) (names : List ℕ → Option ℕ)
    → published (wanted_in program) 0 no_names program.made.symbols ≡ Ok names → seen_of program ≡ Ok names
unfolding seen_of
publish_done program names done = rw done refl
