-- The instructions of a program, at their places.
use Rattle.std.specs.Prelude.{◌≡◌, ℕ, List, slice_get, Option, Some, None, Result, Ok, Err}
use Rattle.cheri_model.specs.declared.instr.Instr.{Instr}
use Rattle.asm_tokens.specs.Faults.{◌>>=◌}
use Rattle.asm_expansions.specs.declared.operation.Operation.{Operation}
use Rattle.asm_statements.specs.declared.statement.Operand.{Operand}
use Rattle.asm_statements.specs.Statements.{StatementParts}
use Rattle.asm_files.specs.declared.fault.AssemblyFault.{AssemblyFault}
use Rattle.asm_late.specs.Late.{LateParts}
use Rattle.asm_code.specs.declared.code.Code.{Code}
use Rattle.asm_instructions.specs.declared.origin.Origin.{Origin}
use Rattle.asm_instructions.specs.Sources.{source_of, expansion_for}
use Rattle.asm_instructions.specs.Overwriting.{overwritten}
use Rattle.asm_code.specs.Standing.{index_of, at_operand}
use Rattle.asm_code.specs.Heads.{operation_of}
use Rattle.asm_code.specs.Numbers.{number_of}

-- instructions, and the origin of each
pub record CodeParts : Type 0 where
  pub instructions : List Instr
  pub origins : List Origin

abbrev pub code_parts : Code → CodeParts
code_parts code = record { instructions = code.instructions.items; origins = code.origins.items }

-- the instructions of an operation with its operand, or without one
unfoldable pub instructions_with : LateParts → List Origin → ℕ → ℕ → StatementParts → Operation
    → Operand → Result (List Instr) AssemblyFault
instructions_with late origins file number statement operation operand = do
  source ← at_operand late file number 0 (source_of operation operand)
  value ← number_of late origins file number statement source
  at_operand late file number 0 (expansion_for operation operand.relocation value)

abbrev pub instructions_by : LateParts → List Origin → ℕ → ℕ → StatementParts → Operation
    → Option Operand → Result (List Instr) AssemblyFault
instructions_by late origins file number statement operation (Some operand) =
    instructions_with late origins file number statement operation operand
instructions_by late origins file number statement operation None =
    at_operand late file number 0 (expansion_for operation None 0)

unfoldable pub instructions_of : LateParts → List Origin → ℕ → ℕ → StatementParts → Operation
    → Result (List Instr) AssemblyFault
instructions_of late origins file number statement operation =
    instructions_by late origins file number statement operation (slice_get statement.operands 0)

-- a statement's instructions, at their places
abbrev pub instructions_placed : LateParts → ℕ → ℕ → CodeParts → List Instr → CodeParts
instructions_placed late file number code instrs =
    record code {
      instructions = overwritten code.instructions (index_of late file number) instrs;
    }

unfoldable pub operation_put : LateParts → ℕ → ℕ → StatementParts → Operation → CodeParts
    → Result CodeParts AssemblyFault
operation_put late file number statement operation code = do
  instrs ← instructions_of late code.origins file number statement operation
  Ok (instructions_placed late file number code instrs)
