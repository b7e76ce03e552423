-- The number of a statement that is known while its file is read, and matters later.
use Rattle.std.specs.Prelude.{◌≡◌, ℕ, if◌then◌else◌, List, slice_get}
use Rattle.std.specs.Prelude.{Option, Some, None, Result, Ok, Err}
use Rattle.asm_tokens.specs.declared.fault.AsmFault.{AsmFault}
use Rattle.asm_tokens.specs.Faults.{no_memory}
use Rattle.asm_tokens.specs.Tokens.{TokenParts}
use Rattle.asm_values.specs.declared.values.Value.{Value}
use Rattle.asm_values.specs.declared.values.Value.TheVariants.{Number, At}
use Rattle.asm_statements.specs.declared.statement.Body.{Body}
use Rattle.asm_statements.specs.declared.statement.Body.TheVariants as bodies
use Rattle.asm_statements.specs.declared.statement.Operand.{Operand}
use Rattle.asm_statements.specs.declared.statement.Role.{Role}
use Rattle.asm_statements.specs.declared.statement.Role.TheVariants.{Early}
use Rattle.asm_statements.specs.Statements.{StatementParts}
use Rattle.asm_drafts.specs.Drafts.{DraftParts}
use Rattle.asm_drafts.specs.Names.{known}
use Rattle.asm_drafts.specs.Operands.{is_said, nodes_of}

-- the constant of an instruction
abbrev pub if_early : Role → Option ℕ
if_early Early = Some 0
if_early _ = None

abbrev pub constant_operand : Option Operand → Option ℕ
constant_operand (Some operand) = if_early operand.role
constant_operand None = None

-- the operand whose number matters later: a constant, or the byte of padding and of bytes that are
-- the same
abbrev pub operand_by : Body → Option Operand → Option ℕ
operand_by (bodies.Instruction at operation) first = constant_operand first
operand_by (bodies.Align at) first = Some 1
operand_by (bodies.Balign at) first = Some 1
operand_by (bodies.Zero at) first = Some 1
operand_by _ first = None

unfoldable pub kept_operand : StatementParts → Option ℕ
kept_operand statement = operand_by statement.body (slice_get statement.operands 0)

abbrev pub number_or_zero : Option Value → ℕ
number_or_zero (Some (Number n)) = n
number_or_zero (Some (At location)) = 0
number_or_zero None = 0

-- the number that an operand is, where it is said and known
unfoldable pub known_number : List TokenParts → DraftParts → StatementParts → ℕ → ℕ
known_number tokens parts statement operand =
    if is_said statement operand
    then number_or_zero (known tokens parts (nodes_of statement operand))
    else 0

abbrev pub number_at : List TokenParts → DraftParts → StatementParts → Option ℕ → ℕ
number_at tokens parts statement (Some operand) = known_number tokens parts statement operand
number_at tokens parts statement None = 0

unfoldable pub kept_number : List TokenParts → DraftParts → StatementParts → ℕ
kept_number tokens parts statement = number_at tokens parts statement (kept_operand statement)

-- that number, or out of memory
abbrev pub GivesKept : Result ℕ AsmFault → ℕ → Type 0
GivesKept (Ok number) meaning = number ≡ meaning
GivesKept (Err fault) meaning = fault ≡ no_memory
