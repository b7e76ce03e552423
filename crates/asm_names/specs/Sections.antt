-- What a section is by its name.
use Rattle.std.specs.Prelude.{ℕ, ◌==◌, nat_le, Bool, ◌&&◌, ◌||◌, if◌then◌else◌, List, [], ◌∷◌}
use Rattle.std.specs.Prelude.{length, take, slice_index, codes, bytes_eq, Option, Some, None}
use Rattle.std.specs.Option.{is_some}
use Rattle.asm_names.specs.declared.sections.SectionKind.{SectionKind}
use Rattle.asm_names.specs.declared.sections.SectionKind.TheVariants.{Code, ReadOnly, ReadWrite}
use Rattle.asm_names.specs.declared.sections.SectionKind.TheVariants.{Zeros, Dropped}

abbrev pub kind_table : List (List ℕ × SectionKind)
kind_table =
    (codes ".text", Code) ∷ (codes ".rodata", ReadOnly) ∷ (codes ".srodata", ReadOnly) ∷
    (codes ".data", ReadWrite) ∷ (codes ".sdata", ReadWrite) ∷ (codes ".bss", Zeros) ∷
    (codes ".sbss", Zeros) ∷ []

-- sections of code that runs before the program, and of threads' data
abbrev pub refused_table : List (List ℕ × Unit {0})
refused_table =
    (codes ".init_array", tt) ∷ (codes ".fini_array", tt) ∷ (codes ".preinit_array", tt) ∷
    (codes ".ctors", tt) ∷ (codes ".dtors", tt) ∷ (codes ".init", tt) ∷ (codes ".fini", tt) ∷
    (codes ".tdata", tt) ∷ (codes ".tbss", tt) ∷ []

-- this name, or one that goes on after it with a point
unfoldable pub is_under : List ℕ → List ℕ → Bool
is_under stem name =
    nat_le (length stem) (length name) && bytes_eq (take (length stem) name) stem
    && ((length name == length stem) || (slice_index name (length stem) == 0x2E))

-- what a table has at the first row that a name is under
unfoldable pub under_at : {T : Type 0} → List (List ℕ × T) → List ℕ → Option T
under_at [] name = None
under_at (row ∷ rows) name = if is_under row.0 name then Some row.1 else under_at rows name

abbrev pub or_dropped : Option SectionKind → SectionKind
or_dropped (Some kind) = kind
or_dropped None = Dropped

-- what a section has where nothing else says it
unfoldable pub section_kind : List ℕ → SectionKind
section_kind name = or_dropped (under_at kind_table name)

unfoldable pub is_refused_section : List ℕ → Bool
is_refused_section name = is_some (under_at refused_table name)
