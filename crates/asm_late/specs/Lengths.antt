-- The bytes of symbols.
use Rattle.std.specs.Prelude.{ℕ, ◌+◌, ◌-◌, ◌^◌, ◌==◌, nat_le, nat_lt, if◌then◌else◌, List, [], ◌∷◌}
use Rattle.std.specs.Prelude.{slice_get, slice_index_or, Option, Some, None, Result, Ok, Err}
use Rattle.asm_values.specs.declared.values.Value.{Value}
use Rattle.asm_values.specs.declared.values.Value.TheVariants.{Number, At}
use Rattle.asm_tokens.specs.declared.fault.AsmFaultKind.{AsmFaultKind}
use Rattle.asm_tokens.specs.declared.fault.AsmFaultKind.TheVariants as faults
use Rattle.asm_layout.specs.declared.chunk.Chunk.{Chunk}
use Rattle.asm_layout.specs.declared.chunk.ChunkKind.{ChunkKind}
use Rattle.asm_layout.specs.declared.chunk.ChunkKind.TheVariants as kinds
use Rattle.asm_symbols.specs.declared.definitions.Meaning.{Meaning}
use Rattle.asm_symbols.specs.declared.definitions.Meaning.TheVariants.{Place, Assigned}
use Rattle.asm_symbols.specs.Definitions.{DefinitionParts}
use Rattle.asm_files.specs.Programs.{ProgramParts}
use Rattle.asm_chains.specs.declared.scene.LateFault.{LateFault}
use Rattle.asm_chains.specs.Chains.{if_value}
use Rattle.asm_chains.specs.Scenes.{SceneParts}
use Rattle.asm_chains.specs.Tables.{late_value}
use Rattle.asm_tables.specs.Names.{nodes_in}
use Rattle.asm_late.specs.Scene.{setting_of}

-- ---- how many bytes a symbol may have

-- data has what its chunk has from there on; of other symbols a size says nothing, but it is a
-- number with a sign
abbrev pub rest_of : ℕ → ChunkKind → ℕ → Option ℕ
rest_of offset kinds.Code size = None
rest_of offset kinds.Dropped size = None
rest_of offset _ size = Some (size - offset)

abbrev pub rest_in : ℕ → Option Chunk → Option ℕ
rest_in offset (Some chunk) = rest_of offset chunk.kind chunk.size
rest_in offset None = None

abbrev pub rest_by : List Chunk → Meaning → Option ℕ
rest_by chunks (Place chunk offset) = rest_in offset (slice_get chunks chunk)
rest_by chunks (Assigned statement) = None

abbrev pub most_by : Option ℕ → ℕ
most_by (Some rest) = rest
most_by None = 2 ^ 63 - 1

-- ---- what a `.size` says

-- a number from 0 to the most
abbrev pub size_in : ℕ → Value → Result ℕ AsmFaultKind
size_in most (Number n) = if nat_le n most then Ok n else Err faults.Range
size_in most (At location) = Err faults.Expression

-- the value of its operand, if that has one
unfoldable pub known_operand : ProgramParts → SceneParts → List (Option Value) → ℕ → ℕ
    → Option Value
known_operand program scene values file statement =
    if_value (late_value scene values (setting_of program file statement)
    (nodes_in program file statement 0))

abbrev pub or_rest : ℕ → Result ℕ AsmFaultKind → ℕ
or_rest rest (Ok size) = if size == 0 then rest else size
or_rest rest (Err fault) = rest

abbrev pub said_or_rest : ℕ → Option Value → ℕ
said_or_rest rest (Some value) = or_rest rest (size_in rest value)
said_or_rest rest None = rest

-- ---- how many bytes it has

abbrev pub length_said : ProgramParts → SceneParts → List (Option Value) → ℕ → ℕ → Option ℕ → ℕ
length_said program scene values file rest (Some statement) =
    said_or_rest rest (known_operand program scene values file statement)
length_said program scene values file rest None = rest

abbrev pub length_by : ProgramParts → SceneParts → List (Option Value) → ℕ → Option ℕ → Option ℕ
    → Option ℕ → ℕ
length_by program scene values file size (Some bytes) rest = bytes
length_by program scene values file size None (Some rest) =
    length_said program scene values file rest size
length_by program scene values file size None None = 0

-- those of `.comm`; else what `.size` says, where that is a number that it may be and not 0; else
-- up to the chunk's end; 0 of what is no data. `size` is the statement that says it.
unfoldable pub length_of : ProgramParts → SceneParts → List (Option Value) → Option ℕ
    → DefinitionParts → ℕ
length_of program scene values size symbol =
    length_by program scene values symbol.file size symbol.bytes
    (rest_by program.made.chunks symbol.meaning)

-- those of all symbols, from a number on
unfoldable pub lengths_from : ProgramParts → SceneParts → List (Option Value) → List (Option ℕ) → ℕ
    → List DefinitionParts → List ℕ
lengths_from program scene values sizes number [] = []
lengths_from program scene values sizes number (symbol ∷ symbols) =
    length_of program scene values (slice_index_or sizes number None) symbol
    ∷ lengths_from program scene values sizes (number + 1) symbols
