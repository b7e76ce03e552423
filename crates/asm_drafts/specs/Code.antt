-- Instructions.
use Rattle.std.specs.Prelude.{ℕ, ◌*◌, ◌-◌, ◌^◌, Bool, if◌then◌else◌, List, slice_get}
use Rattle.std.specs.Prelude.{Option, Some, None, Result, Ok, Err}
use Rattle.std.specs.Int.{w64, cast_signed}
use Rattle.std.specs.Option.{is_some}
use Rattle.asm_tokens.specs.declared.fault.AsmFault.{AsmFault}
use Rattle.asm_tokens.specs.declared.fault.AsmFaultKind.TheVariants as faults
use Rattle.asm_tokens.specs.Faults.{◌>>=◌}
use Rattle.asm_tokens.specs.Tokens.{TokenParts}
use Rattle.asm_expansions.specs.declared.operation.Operation.{Operation}
use Rattle.asm_expansions.specs.Expansions.{count_of as expansion_count}
use Rattle.asm_expressions.specs.Tokens.{fault_at}
use Rattle.asm_layout.specs.declared.chunk.ChunkKind.TheVariants.{Code, Dropped}
use Rattle.asm_statements.specs.declared.statement.Operand.{Operand}
use Rattle.asm_statements.specs.declared.statement.Role.{Role}
use Rattle.asm_statements.specs.declared.statement.Role.TheVariants.{Early, Zero}
use Rattle.asm_statements.specs.Statements.{StatementParts}
use Rattle.asm_drafts.specs.Drafts.{DraftParts, is_here, grown_at, ended}
use Rattle.asm_drafts.specs.Names.{up_to}
use Rattle.asm_drafts.specs.Operands.{first_of, early_number}

-- how many instructions an operation stands for, with its constant
unfoldable pub count_of : Option Operation → ℕ → ℕ
count_of (Some operation) constant = expansion_count operation (cast_signed w64 constant)
count_of None constant = 0

-- an offset that has to be 0
unfoldable pub zero_judged : List TokenParts → DraftParts → StatementParts → Bool
    → Result (Unit {0}) AsmFault
zero_judged tokens parts statement relocated =
    if relocated then Err (fault_at tokens faults.Expression (first_of statement 0))
    else (do
      zero ← early_number tokens parts statement 0 (up_to 0)
      Ok tt)

abbrev pub constant_by : List TokenParts → DraftParts → StatementParts → Bool → Role
    → Result ℕ AsmFault
constant_by tokens parts statement relocated Early =
    early_number tokens parts statement 0 (up_to (2 ^ 64 - 1))
constant_by tokens parts statement relocated Zero =
    zero_judged tokens parts statement relocated >>= λ judged. Ok 0
constant_by tokens parts statement relocated _ = Ok 0

abbrev pub constant_from : List TokenParts → DraftParts → StatementParts → Option Operand
    → Result ℕ AsmFault
constant_from tokens parts statement (Some operand) =
    constant_by tokens parts statement (is_some operand.relocation) operand.role
constant_from tokens parts statement None = Ok 0

-- the constant of an instruction, on which its count of instructions depends
unfoldable pub constant_of : List TokenParts → DraftParts → StatementParts → Result ℕ AsmFault
constant_of tokens parts statement =
    constant_from tokens parts statement (slice_get statement.operands 0)

-- an instruction: nothing where nothing is kept; it has to be in code
unfoldable pub instruction_put : List TokenParts → DraftParts → StatementParts → ℕ → Option Operation
    → Result DraftParts AsmFault
instruction_put tokens parts statement at operation =
    if is_here parts Dropped then Ok parts
    else if is_here parts Code then (do
      constant ← constant_of tokens parts statement
      _ ← ended statement.fault
      grown_at tokens at (4 * count_of operation constant) parts)
    else Err (fault_at tokens faults.Section at)
