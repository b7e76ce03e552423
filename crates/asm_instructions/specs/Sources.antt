-- How the value of an instruction's operand is found, and what the instruction is with it.
use Rattle.std.specs.Prelude.{◌≡◌, ℕ, List, Option, Some, None, Result, Ok, Err}
use Rattle.std.specs.Int.{w64, cast_signed}
use Rattle.cheri_model.specs.declared.instr.Instr.{Instr}
use Rattle.asm_tokens.specs.declared.fault.AsmFaultKind.{AsmFaultKind}
use Rattle.asm_tokens.specs.declared.fault.AsmFaultKind.TheVariants.{Range, Expression}
use Rattle.asm_tokens.specs.Faults.{◌>>=◌}
use Rattle.asm_names.specs.declared.relocations.Relocation.{Relocation}
use Rattle.asm_names.specs.declared.relocations.Relocation.TheVariants as relocations
use Rattle.asm_expansions.specs.declared.expansion.Expansion.{Expansion}
use Rattle.asm_expansions.specs.declared.operation.Operation.{Operation}
use Rattle.asm_expansions.specs.declared.operation.Operation.TheVariants.{Clgc}
use Rattle.asm_expansions.specs.Expansions.{instrs_of, expansion_of}
use Rattle.asm_immediates.specs.declared.immediates.Immediate.{Immediate}
use Rattle.asm_immediates.specs.declared.immediates.Immediate.TheVariants as immediates
use Rattle.asm_immediates.specs.Immediates.{immediate_of, immediate_value}
use Rattle.asm_statements.specs.declared.statement.Operand.{Operand}
use Rattle.asm_statements.specs.declared.statement.Role.{Role}
use Rattle.asm_statements.specs.declared.statement.Role.TheVariants as roles
use Rattle.asm_instructions.specs.declared.source.Source.{Source}
use Rattle.asm_instructions.specs.declared.source.Source.TheVariants as sources

-- `%hi` in `lui`, `%lo` in an immediate of 12 bits: an address; `%pcrel_hi` and
-- `%captab_pcrel_hi` in `auipcc`: a distance; `%pcrel_lo` in an immediate of 12 bits: the distance
-- of the `auipcc` that it names
abbrev pub relocated_source : Immediate → Relocation → Result Source AsmFaultKind
relocated_source immediates.Upper relocations.Hi = Ok sources.Address
relocated_source immediates.Signed relocations.Lo = Ok sources.Address
relocated_source immediates.UpperOfPcc relocations.PcrelHi = Ok sources.Distance
relocated_source immediates.UpperOfPcc relocations.CaptabPcrelHi = Ok sources.Entry
relocated_source immediates.Signed relocations.PcrelLo = Ok sources.Named
relocated_source _ _ = Err Expression

abbrev pub immediate_source : Operation → Option Relocation → Result Source AsmFaultKind
immediate_source operation (Some relocation) = relocated_source (immediate_of operation) relocation
immediate_source operation None = Ok sources.Number

-- what a pair of instructions reaches: with `clgc` an entry of the capability table
abbrev pub symbol_source : Operation → Source
symbol_source (Clgc cd) = sources.Entry
symbol_source _ = sources.Distance

abbrev pub role_source : Operation → Option Relocation → Role → Result Source AsmFaultKind
role_source operation relocation roles.Immediate = immediate_source operation relocation
role_source operation relocation roles.Target = Ok sources.Target
role_source operation relocation roles.Symbol = Ok (symbol_source operation)
role_source operation relocation _ = Ok sources.Constant

-- how the value of an operation's operand is found
unfoldable pub source_of : Operation → Operand → Result Source AsmFaultKind
source_of operation operand = role_source operation operand.relocation operand.role

abbrev pub or_range : Option (List Instr) → Result (List Instr) AsmFaultKind
or_range (Some instrs) = Ok instrs
or_range None = Err Range

-- the instructions of an operation with the number that its source gives
unfoldable pub expansion_for : Operation → Option Relocation → ℕ → Result (List Instr) AsmFaultKind
expansion_for operation relocation number = do
  value ← immediate_value (immediate_of operation) relocation (cast_signed w64 number)
  or_range (expansion_of operation value)

-- an expansion by what it should be
abbrev pub Expands : Result Expansion AsmFaultKind → Result (List Instr) AsmFaultKind → Type 0
Expands (Ok expansion) meaning = meaning ≡ Ok (instrs_of expansion)
Expands (Err kind) meaning = meaning ≡ Err kind
