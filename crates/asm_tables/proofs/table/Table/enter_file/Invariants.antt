-- the entries of the statements so far
use Rattle.std.proofs.Common.{◌≡◌}
use Rattle.asm_symbols.specs.Names.{names_of}
use Rattle.asm_files.specs.Programs.{program_parts}
use Rattle.asm_tables.specs.Tables.{statements_entered, table_parts}
use Rattle.asm_tables.proofs.table.Table.enter_file.Given as goal

abbrev pub invariant-loop-number : goal.invariant-loop-number
invariant-loop-number l =
    table_parts l.self ≡ statements_entered (program_parts l.program) (names_of l.seen) l.file l.number (table_parts l.initial.self)
