-- The capability table.
use Rattle.std.specs.Prelude.{ℕ, zero, suc, List, [], ◌∷◌, ◌++◌, length, slice_get, slice_set}
use Rattle.std.specs.Prelude.{replicate, Option, Some, None}
use Rattle.asm_files.specs.Programs.{FileParts, ProgramParts}
use Rattle.asm_tables.specs.declared.table.Table.{Table}
use Rattle.asm_tables.specs.Entries.{entry_asked}

-- the symbols of the entries, and the number of each symbol's entry
pub record TableParts : Type 0 where
  pub symbols : List ℕ
  pub entries : List (Option ℕ)

abbrev pub table_parts : Table → TableParts
table_parts table = record { symbols = table.symbols.items; entries = table.entries.items }

-- one more entry, unless the symbol has one
abbrev pub entered_by : ℕ → TableParts → Option (Option ℕ) → TableParts
entered_by symbol table (Some None) =
    record {
      symbols = table.symbols ++ symbol ∷ [];
      entries = slice_set table.entries symbol (Some (length table.symbols));
    }
entered_by symbol table _ = table

unfoldable pub entered : ℕ → TableParts → TableParts
entered symbol table = entered_by symbol table (slice_get table.entries symbol)

abbrev pub entered_if : Option ℕ → TableParts → TableParts
entered_if (Some symbol) table = entered symbol table
entered_if None table = table

-- the entries that the first statements of a file ask for
unfoldable pub statements_entered : ProgramParts → (List ℕ → Option ℕ) → ℕ → ℕ → TableParts
    → TableParts
statements_entered program seen file zero table = table
statements_entered program seen file (suc count) table =
    entered_if (entry_asked program seen file count)
    (statements_entered program seen file count table)

abbrev pub count_or_none : Option FileParts → ℕ
count_or_none (Some file) = length file.statements
count_or_none None = 0

unfoldable pub count_in : ProgramParts → ℕ → ℕ
count_in program file = count_or_none (slice_get program.files file)

-- those of the first files
unfoldable pub files_entered : ProgramParts → (List ℕ → Option ℕ) → ℕ → TableParts → TableParts
files_entered program seen zero table = table
files_entered program seen (suc count) table =
    statements_entered program seen count (count_in program count)
    (files_entered program seen count table)

abbrev pub opening_table : ProgramParts → TableParts
opening_table program =
    record { symbols = []; entries = replicate (length program.made.symbols) None }

-- an entry for each symbol that code asks for
unfoldable pub table_of : ProgramParts → (List ℕ → Option ℕ) → TableParts
table_of program seen = files_entered program seen (length program.files) (opening_table program)
