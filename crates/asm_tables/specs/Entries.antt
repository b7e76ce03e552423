-- The symbols of the capability table's entries.
use Rattle.std.specs.Prelude.{ℕ, ◌==◌, Bool, true, false, not, if◌then◌else◌, List, length}
use Rattle.std.specs.Prelude.{slice_get}
use Rattle.std.specs.Prelude.{Option, Some, None, Result, Ok, Err}
use Rattle.asm_names.specs.declared.relocations.Relocation.{Relocation}
use Rattle.asm_names.specs.declared.relocations.Relocation.TheVariants.{CaptabPcrelHi}
use Rattle.asm_tokens.specs.declared.fault.AsmFaultKind.{AsmFaultKind}
use Rattle.asm_expansions.specs.declared.operation.Operation.{Operation}
use Rattle.asm_expansions.specs.declared.operation.Operation.TheVariants.{Clgc}
use Rattle.asm_layout.specs.declared.chunk.Chunk.{Chunk}
use Rattle.asm_layout.specs.declared.chunk.ChunkKind.TheVariants.{Code}
use Rattle.asm_layout.specs.Placement.{rank}
use Rattle.asm_statements.specs.declared.statement.Body.{Body}
use Rattle.asm_statements.specs.declared.statement.Body.TheVariants as bodies
use Rattle.asm_statements.specs.declared.statement.Operand.{Operand}
use Rattle.asm_statements.specs.declared.statement.Role.{Role}
use Rattle.asm_statements.specs.declared.statement.Role.TheVariants as roles
use Rattle.asm_statements.specs.Statements.{StatementParts}
use Rattle.asm_files.specs.Programs.{ProgramParts, statement_at, stand_in}
use Rattle.asm_tables.specs.Names.{behind, named_by, nodes_in}

-- the symbol whose capability an operand asks for
abbrev pub place_behind : ProgramParts → (List ℕ → Option ℕ) → Result ℕ AsmFaultKind
    → Result ℕ AsmFaultKind
place_behind program seen (Ok symbol) = behind program seen (length program.made.symbols) symbol
place_behind program seen (Err kind) = Err kind

unfoldable pub entry_symbol : ProgramParts → (List ℕ → Option ℕ) → ℕ → ℕ → ℕ
    → Result ℕ AsmFaultKind
entry_symbol program seen file statement operand =
    place_behind program seen
    (named_by program seen file (nodes_in program file statement operand))

-- whether an operand asks for an entry: `%captab_pcrel_hi`, or that of `clgc`
abbrev pub is_captab : Option Relocation → Bool
is_captab (Some CaptabPcrelHi) = true
is_captab _ = false

abbrev pub is_clgc : Option Operation → Bool
is_clgc (Some (Clgc cd)) = true
is_clgc _ = false

abbrev pub asks_by : Option Operation → Option Relocation → Role → Bool
asks_by operation relocation roles.Immediate = is_captab relocation
asks_by operation relocation roles.Symbol = is_clgc operation
asks_by operation relocation _ = false

unfoldable pub asks_entry : Option Operation → Operand → Bool
asks_entry operation operand = asks_by operation operand.relocation operand.role

abbrev pub asks_first : Option Operation → Option Operand → Bool
asks_first operation (Some operand) = asks_entry operation operand
asks_first operation None = false

abbrev pub asks_body : Body → Option Operand → Bool
asks_body (bodies.Instruction at operation) first = asks_first operation first
asks_body _ first = false

unfoldable pub asks_in : StatementParts → Bool
asks_in statement = asks_body statement.body (slice_get statement.operands 0)

-- whether a chunk is code
abbrev pub code_kind : Option Chunk → Bool
code_kind (Some chunk) = rank chunk.kind == rank Code
code_kind None = false

unfoldable pub is_code : ProgramParts → ℕ → Bool
is_code program chunk = code_kind (slice_get program.made.chunks chunk)

-- the symbol of the entry that a statement asks for, if there is one
abbrev pub if_found : Result ℕ AsmFaultKind → Option ℕ
if_found (Ok symbol) = Some symbol
if_found (Err kind) = None

abbrev pub asked_by : ProgramParts → (List ℕ → Option ℕ) → ℕ → ℕ → Option StatementParts
    → Option ℕ
asked_by program seen file number (Some statement) =
    if not (asks_in statement) then None
    else if not (is_code program (stand_in program file number).chunk) then None
    else if_found (entry_symbol program seen file number 0)
asked_by program seen file number None = None

unfoldable pub entry_asked : ProgramParts → (List ℕ → Option ℕ) → ℕ → ℕ → Option ℕ
entry_asked program seen file number =
    asked_by program seen file number (statement_at program file number)
