-- What operands and symbols are worth, with faults in their files.
use Rattle.std.specs.Prelude.{ℕ, List, Option, Some, None, Result, Ok, Err}
use Rattle.asm_tokens.specs.declared.fault.AsmFaultKind.{AsmFaultKind}
use Rattle.asm_tokens.specs.declared.fault.AsmFaultKind.TheVariants as faults
use Rattle.asm_values.specs.declared.values.Location.{Location}
use Rattle.asm_values.specs.declared.values.Value.{Value}
use Rattle.asm_expressions.specs.Tokens.{fault_at}
use Rattle.asm_statements.specs.Statements.{StatementParts}
use Rattle.asm_drafts.specs.Operands.{first_of}
use Rattle.asm_files.specs.declared.fault.AssemblyFault.{AssemblyFault}
use Rattle.asm_files.specs.Faults.{in_file}
use Rattle.asm_files.specs.Programs.{ProgramParts, statement_at, tokens_in}
use Rattle.asm_chains.specs.declared.scene.LateFault.{LateFault}
use Rattle.asm_chains.specs.declared.scene.Setting.{Setting}

-- a fault at a token of a file
unfoldable pub token_fault : ProgramParts → ℕ → AsmFaultKind → ℕ → AssemblyFault
token_fault program file kind at = in_file file (fault_at (tokens_in program file) kind at)

abbrev pub late_fault : ProgramParts → LateFault → AssemblyFault
late_fault program fault = token_fault program fault.file fault.kind fault.at

abbrev pub in_files : {X : Type 0} → ProgramParts → Result X LateFault → Result X AssemblyFault
in_files program (Ok value) = Ok value
in_files program (Err fault) = Err (late_fault program fault)

-- a fault at the first token of an operand
abbrev pub first_or_none : Option StatementParts → ℕ → ℕ
first_or_none (Some statement) operand = first_of statement operand
first_or_none None operand = 0

unfoldable pub operand_fault : ProgramParts → ℕ → ℕ → ℕ → AsmFaultKind → AssemblyFault
operand_fault program file statement operand kind =
    token_fault program file kind (first_or_none (statement_at program file statement) operand)

-- where an operand stands, with this place as `.`
abbrev pub setting_at : ℕ → ℕ → Location → Setting
setting_at file statement dot = record { file = file; statement = statement; dot = dot }
