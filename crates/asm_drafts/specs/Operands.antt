-- The operands of statements.
use Rattle.std.specs.Prelude.{ℕ, ◌+◌, ◌-◌, ◌%◌, ◌^◌, ◌==◌, nat_le, Bool, true, false, ◌&&◌}
use Rattle.std.specs.Prelude.{if◌then◌else◌, List, [], slice_get, slice_range, length}
use Rattle.std.specs.Prelude.{Option, Some, None, Result, Ok, Err}
use Rattle.asm_tokens.specs.declared.fault.AsmFault.{AsmFault}
use Rattle.asm_tokens.specs.declared.fault.AsmFaultKind.TheVariants.{Expression, Range}
use Rattle.asm_tokens.specs.Faults.{◌>>=◌}
use Rattle.asm_tokens.specs.Tokens.{TokenParts}
use Rattle.asm_values.specs.declared.values.Value.{Value}
use Rattle.asm_values.specs.declared.values.Value.TheVariants.{Number, At}
use Rattle.asm_expressions.specs.declared.node.Node.{Node}
use Rattle.asm_expressions.specs.Tokens.{fault_at}
use Rattle.asm_statements.specs.declared.statement.Operand.{Operand}
use Rattle.asm_statements.specs.declared.statement.Role.{Role}
use Rattle.asm_statements.specs.declared.statement.Role.TheVariants.{Absent}
use Rattle.asm_statements.specs.Statements.{StatementParts}
use Rattle.asm_drafts.specs.declared.operands.Limits.{Limits}
use Rattle.asm_drafts.specs.Drafts.{DraftParts}
use Rattle.asm_drafts.specs.Early.{early_value}

-- where an operand's nodes end, and its first token
abbrev pub end_or_none : Option Operand → ℕ
end_or_none (Some operand) = operand.end
end_or_none None = 0

abbrev pub first_or_none : Option Operand → ℕ
first_or_none (Some operand) = operand.first
first_or_none None = 0

unfoldable pub operand_end : StatementParts → ℕ → ℕ
operand_end statement operand = end_or_none (slice_get statement.operands operand)

unfoldable pub first_of : StatementParts → ℕ → ℕ
first_of statement operand = first_or_none (slice_get statement.operands operand)

-- its nodes begin where those of the operand before it end
abbrev pub operand_start : StatementParts → ℕ → ℕ
operand_start statement operand =
    if operand == 0 then 0 else operand_end statement (operand - 1)

unfoldable pub nodes_of : StatementParts → ℕ → List Node
nodes_of statement operand =
    if nat_le (operand_start statement operand) (operand_end statement operand)
    && nat_le (operand_end statement operand) (length statement.nodes)
    then slice_range statement.nodes (operand_start statement operand) (operand_end statement operand)
    else []

-- whether an operand is said, and not left out
abbrev pub role_said : Role → Bool
role_said Absent = false
role_said _ = true

abbrev pub operand_said : Option Operand → Bool
operand_said (Some operand) = role_said operand.role
operand_said None = false

unfoldable pub is_said : StatementParts → ℕ → Bool
is_said statement operand = operand_said (slice_get statement.operands operand)

-- a number of 64 bits from so many below 0 up to a limit
abbrev pub is_within : Limits → ℕ → Bool
is_within limits n = nat_le ((n + limits.below) % 2 ^ 64) (limits.below + limits.most)

unfoldable pub number_in : List TokenParts → ℕ → Limits → Value → Result ℕ AsmFault
number_in tokens at limits (Number n) =
    if is_within limits n then Ok n else Err (fault_at tokens Range at)
number_in tokens at limits (At location) = Err (fault_at tokens Expression at)

-- the number that an operand is while the file is read
unfoldable pub early_number : List TokenParts → DraftParts → StatementParts → ℕ → Limits
    → Result ℕ AsmFault
early_number tokens parts statement operand limits = do
  value ← early_value tokens parts (nodes_of statement operand)
  number_in tokens (first_of statement operand) limits value

-- the same of an operand that may be left out
unfoldable pub early_if_said : List TokenParts → DraftParts → StatementParts → ℕ → Limits
    → Result (Option ℕ) AsmFault
early_if_said tokens parts statement operand limits =
    if is_said statement operand then (do
      number ← early_number tokens parts statement operand limits
      Ok (Some number))
    else Ok None
