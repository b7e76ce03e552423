-- What code reaches.
use Rattle.std.specs.Prelude.{ℕ, zero, suc, ◌+◌, ◌-◌, ◌/◌, ◌%◌, ◌^◌, ◌==◌, nat_lt, Bool, true}
use Rattle.std.specs.Prelude.{false, not, ◌&&◌, ◌||◌, if◌then◌else◌, List, length, slice_get}
use Rattle.std.specs.Prelude.{Option, Some, None}
use Rattle.cheri_model.specs.declared.code.TheConstants.{CODE_BASE, INSTRUCTION_BYTES}
use Rattle.asm_values.specs.declared.values.Value.{Value}
use Rattle.asm_values.specs.declared.values.Value.TheVariants.{Number, At}
use Rattle.asm_capabilities.specs.declared.code.Reach.{Reach}
use Rattle.asm_capabilities.specs.declared.code.Reach.TheVariants as reaches
use Rattle.asm_layout.specs.declared.chunk.ChunkKind.TheVariants.{Code}
use Rattle.asm_layout.specs.Placement.{rank}
use Rattle.asm_links.specs.Sections.{kind_of}
use Rattle.asm_names.specs.declared.relocations.Relocation.{Relocation}
use Rattle.asm_names.specs.declared.relocations.Relocation.TheVariants as relocations
use Rattle.asm_expansions.specs.declared.operation.Operation.{Operation}
use Rattle.asm_expansions.specs.declared.operation.Operation.TheVariants as operations
use Rattle.asm_statements.specs.declared.statement.Body.{Body}
use Rattle.asm_statements.specs.declared.statement.Body.TheVariants as bodies
use Rattle.asm_statements.specs.declared.statement.Operand.{Operand}
use Rattle.asm_statements.specs.declared.statement.Role.{Role}
use Rattle.asm_statements.specs.declared.statement.Role.TheVariants as roles
use Rattle.asm_statements.specs.Statements.{StatementParts}
use Rattle.asm_files.specs.Programs.{ProgramParts, stand_in, statement_at}
use Rattle.asm_tables.specs.Entries.{is_code}
use Rattle.asm_tables.specs.Tables.{count_in}
use Rattle.asm_chains.specs.Scenes.{SceneParts}
use Rattle.asm_late.specs.declared.uses.Use.{Use}
use Rattle.asm_late.specs.declared.uses.Use.TheVariants as uses
use Rattle.asm_late.specs.Lengths.{known_operand}

-- ---- what an instruction asks for

abbrev pub use_of_relocation : Option Relocation → Use
use_of_relocation (Some relocations.CaptabPcrelHi) = uses.Entry
use_of_relocation (Some relocations.PcrelHi) = uses.Place
use_of_relocation _ = uses.Nothing

abbrev pub use_of_operation : Option Operation → Use
use_of_operation (Some (operations.Clgc cd)) = uses.Entry
use_of_operation (Some (operations.Cllc cd)) = uses.Place
use_of_operation (Some (operations.LoadSymbol op rd)) = uses.Place
use_of_operation _ = uses.Nothing

abbrev pub use_by : Option Operation → Operand → Role → Use
use_by operation operand roles.Immediate = use_of_relocation operand.relocation
use_by operation operand roles.Symbol = use_of_operation operation
use_by operation operand _ = uses.Nothing

abbrev pub use_of_operand : Option Operation → Option Operand → Use
use_of_operand operation (Some operand) = use_by operation operand operand.role
use_of_operand operation None = uses.Nothing

abbrev pub use_of_body : Option Operand → Body → Use
use_of_body operand (bodies.Instruction at operation) = use_of_operand operation operand
use_of_body operand _ = uses.Nothing

-- an entry of the capability table, or a place through PCC
unfoldable pub use_of : StatementParts → Use
use_of statement = use_of_body (slice_get statement.operands 0) statement.body

abbrev pub use_or_nothing : Option StatementParts → Use
use_or_nothing (Some statement) = use_of statement
use_or_nothing None = uses.Nothing

-- ---- what reaches memory

-- a place that isn't in code
abbrev pub is_beyond_code : ProgramParts → Option Value → Bool
is_beyond_code program (Some (At location)) =
    not (rank (kind_of program.made.chunks location.chunk) == rank Code)
is_beyond_code program (Some (Number n)) = false
is_beyond_code program None = false

abbrev pub leaves_by : ProgramParts → SceneParts → List (Option Value) → ℕ → ℕ → Use → Bool
leaves_by program scene values file number uses.Entry = true
leaves_by program scene values file number uses.Place =
    is_beyond_code program (known_operand program scene values file number)
leaves_by program scene values file number uses.Nothing = false

-- whether a statement reaches memory by PCC
unfoldable pub leaves_code : ProgramParts → SceneParts → List (Option Value) → ℕ → ℕ → Bool
leaves_code program scene values file number =
    is_code program (stand_in program file number).chunk
    && leaves_by program scene values file number
    (use_or_nothing (statement_at program file number))

-- whether some does, of so many statements of a file, and of so many files
unfoldable pub file_leaves : ProgramParts → SceneParts → List (Option Value) → ℕ → ℕ → Bool
file_leaves program scene values file zero = false
file_leaves program scene values file (suc number) =
    leaves_code program scene values file number || file_leaves program scene values file number

unfoldable pub some_leaves : ProgramParts → SceneParts → List (Option Value) → ℕ → Bool
some_leaves program scene values zero = false
some_leaves program scene values (suc file) =
    file_leaves program scene values file (count_in program file)
    || some_leaves program scene values file

-- how many instructions there are up to an address
abbrev pub instructions_to : ℕ → ℕ
instructions_to end = ((end + (2 ^ 64 - CODE_BASE)) % 2 ^ 64) / INSTRUCTION_BYTES

-- the guard and the exit are two more, where there is an instruction
abbrev pub with_exit : Bool → ℕ → ℕ
with_exit exits own = if exits && nat_lt 0 own then (own + 2) % 2 ^ 32 else own

abbrev pub reach_by : Bool → ℕ → Reach
reach_by leaves count = if leaves then reaches.CodeAndMemory else reaches.Code count

unfoldable pub reach_of : ProgramParts → SceneParts → List (Option Value) → Bool → ℕ → Reach
reach_of program scene values exits own =
    reach_by (some_leaves program scene values (length program.files))
    (with_exit exits (own % 2 ^ 32))
