-- The symbols that all files see.
use Rattle.std.specs.Prelude.{ℕ, List, slice_get, slice_index_or}
use Rattle.std.specs.Prelude.{Option, Some, None, Result, Ok, Err}
use Rattle.asm_tokens.specs.declared.fault.AsmFaultKind.TheVariants as faults
use Rattle.asm_tokens.specs.Faults.{no_memory}
use Rattle.asm_expressions.specs.Tokens.{fault_at}
use Rattle.asm_symbols.specs.declared.globals.PublishFault.{PublishFault}
use Rattle.asm_symbols.specs.declared.globals.PublishFault.TheVariants as publishing
use Rattle.asm_symbols.specs.Definitions.{DefinitionParts}
use Rattle.asm_symbols.specs.Globals.{published}
use Rattle.asm_symbols.specs.Names.{no_names}
use Rattle.asm_files.specs.declared.fault.AssemblyFault.{AssemblyFault}
use Rattle.asm_files.specs.Faults.{in_file}
use Rattle.asm_files.specs.Programs.{ProgramParts, tokens_in}

-- the names that each file wants all files to see
abbrev pub wanted_in : ProgramParts → ℕ → List ℕ → Option ℕ
wanted_in program file = slice_index_or program.made.wanted file no_names

-- the fault of the symbol of a number, whose name another file's has
abbrev pub twice_at : ProgramParts → Option DefinitionParts → AssemblyFault
twice_at program (Some symbol) =
    in_file symbol.file (fault_at (tokens_in program symbol.file) faults.Twice symbol.token)
twice_at program None = in_file 0 (fault_at (tokens_in program 0) faults.Twice 0)

unfoldable pub twice_fault : ProgramParts → ℕ → AssemblyFault
twice_fault program number = twice_at program (slice_get program.made.symbols number)

abbrev pub publish_fault : ProgramParts → PublishFault → AssemblyFault
publish_fault program (publishing.Twice number) = twice_fault program number
publish_fault program publishing.NoMemory = record { file = 0; fault = no_memory }

abbrev pub seen_or_fault : ProgramParts → Result (List ℕ → Option ℕ) PublishFault
    → Result (List ℕ → Option ℕ) AssemblyFault
seen_or_fault program (Ok names) = Ok names
seen_or_fault program (Err fault) = Err (publish_fault program fault)

-- the numbers of the symbols that all files see
unfoldable pub seen_of : ProgramParts → Result (List ℕ → Option ℕ) AssemblyFault
seen_of program =
    seen_or_fault program (published (wanted_in program) 0 no_names program.made.symbols)
