-- the entries of the files so far
use Rattle.std.proofs.Common.{◌≡◌}
use Rattle.asm_symbols.specs.Names.{names_of}
use Rattle.asm_files.specs.Programs.{program_parts}
use Rattle.asm_tables.specs.Tables.{files_entered, opening_table, table_parts}
use Rattle.asm_tables.proofs.table.table_of.Given as goal

abbrev pub invariant-loop-file : goal.invariant-loop-file
invariant-loop-file l =
    table_parts l.table ≡ files_entered (program_parts l.program) (names_of l.seen) l.file (opening_table (program_parts l.program))
